-- How a run of rows ends. This is this project's own.
use Rattle.std.specs.Prelude.{ℕ, List, Option, Result}
use Rattle.cave_runs.specs.RowsRuns.{IsFaultOfRows, IsRowsTextOf}
use Rattle.cave_runs.specs.Streams.{Stream}
use Rattle.cave_runs.specs.TextRuns.{IsRunOfText}
use Rattle.cave_runs.specs.declared.fault.RunFault.{RunFault}

-- how it ends, of a structure and the user's rows, where there are any: what it answers, and what its writer holds
abbrev pub IsRunOfRows : Stream → Option (List ℕ) → Result (Unit {0}) RunFault → Stream → Type 0
IsRunOfRows structure table result writer = IsRunOfText (λ bytes text. IsRowsTextOf bytes table text)
    (λ bytes fault. IsFaultOfRows bytes table fault) structure result writer
