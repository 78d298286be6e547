-- What a run of rows prints of the bytes that it reads, or why it refuses them. This is this project's own.
use Rattle.std.specs.Prelude.{◌≡◌, ℕ, List, Option}
use Rattle.block_rows.specs.Rows.{Table}
use Rattle.cave_reading.specs.Bytes.{IsFaultOfParts, IsTableFor}
use Rattle.cave_reading.specs.declared.cave_fault.CaveFault.{CaveFault}
use Rattle.cave_runs.specs.Faults.{run_fault_of}
use Rattle.cave_runs.specs.RowsText.{rows_text}
use Rattle.cave_runs.specs.declared.fault.RunFault.{RunFault}
use Rattle.scan_core.specs.Scan.{Scans, Structure}

-- the text of the rows that serve the block states of the structure that the bytes tell
abbrev pub IsRowsTextOf : List ℕ → Option (List ℕ) → List ℕ → Type 0
IsRowsTextOf bytes table text = (scan : Structure) × Scans bytes scan
    × ((rows : Table) × IsTableFor table rows × (text ≡ rows_text rows scan.palette))

-- why there are none: the bytes are no structure, or the table is none; an unknown block is no fault
abbrev pub IsFaultOfRows : List ℕ → Option (List ℕ) → RunFault → Type 0
IsFaultOfRows bytes table fault = (inner : CaveFault) × IsFaultOfParts bytes table inner × (fault ≡ run_fault_of inner)
