-- What a run prints of the bytes that it reads, or why it refuses them.
use Rattle.std.specs.Prelude.{◌≡◌, ℕ, List, Option}
use Rattle.cave_reading.specs.Bytes.{IsCaveOfBytes}
use Rattle.cave_reading.specs.Bytes as caves
use Rattle.cave_model.specs.Cave.{Cave}
use Rattle.cave_model.specs.Rule.{Rule}
use Rattle.cave_reading.specs.declared.cave_fault.CaveFault.{CaveFault}
use Rattle.cave_runs.specs.DarkText.{IsDarkText}
use Rattle.cave_runs.specs.Faults.{run_fault_of}
use Rattle.cave_runs.specs.Streams.{Stream}
use Rattle.cave_runs.specs.TextRuns.{BeginsText, IsOfBytes, WritesText}
use Rattle.cave_runs.specs.declared.fault.RunFault.{RunFault}

-- the text of the dark cells of the cave that the bytes tell
abbrev pub IsDarkTextOf : List ℕ → Option (List ℕ) → Rule → List ℕ → Type 0
IsDarkTextOf bytes table rule text = (cave : Cave) × IsCaveOfBytes bytes table rule cave × IsDarkText cave text

-- why the bytes tell no cave, as a run answers it
abbrev pub IsFaultOfBytes : List ℕ → Option (List ℕ) → RunFault → Type 0
IsFaultOfBytes bytes table fault = (inner : CaveFault) × caves.IsFaultOfBytes bytes table inner
    × (fault ≡ run_fault_of inner)

-- why an input is refused: it is too long, or tells no cave
abbrev pub IsFaultOfInput : List ℕ → Option (List ℕ) → RunFault → Type 0
IsFaultOfInput bytes table fault = IsOfBytes (λ b e. IsFaultOfBytes b table e) bytes fault

-- the writer took the text of the dark cells, and nothing else
abbrev pub WritesDark : List ℕ → Option (List ℕ) → Rule → Stream → Type 0
WritesDark bytes table rule writer = WritesText (IsDarkTextOf bytes table rule) writer

-- the writer took a beginning of that text
abbrev pub BeginsDark : List ℕ → Option (List ℕ) → Rule → Stream → Type 0
BeginsDark bytes table rule writer = BeginsText (IsDarkTextOf bytes table rule) writer
