-- The cave that the bytes of a structure and a user's table tell, or why they tell none.
-- That the structure is judged first, then the table, then the blocks, is this project's own.
use Rattle.std.specs.Prelude.{◌≡◌, ◌⊎◌, ℕ, List, [], Option, Some, None}
use Rattle.scan_core.specs.Scan.{Structure, Scans}
use Rattle.scan_core.specs.Faults as structure
use Rattle.scan_core.specs.declared.fault.ScanFault.{ScanFault}
use Rattle.block_rows.specs.Rows.{Table}
use Rattle.block_rows.specs.Shipped.{shipped_rows}
use Rattle.block_rows.specs.UserTable as user
use Rattle.block_rows.specs.declared.fault.RowsFault.{RowsFault}
use Rattle.cave_model.specs.Rule.{Rule}
use Rattle.cave_model.specs.Cave.{Cave}
use Rattle.cave_reading.specs.World.{IsCaveOf, IsUnknownBlock}
use Rattle.cave_reading.specs.declared.fault.BuildFault.{BuildFault}
use Rattle.cave_reading.specs.declared.cave_fault.CaveFault.{CaveFault}
use Rattle.cave_reading.specs.declared.cave_fault.CaveFault.TheVariants as faults

-- the rows of a run: those of the user's table, where there is one, before the shipped ones
abbrev pub IsTableFor : Option (List ℕ) → Table → Type 0
IsTableFor None rows = rows ≡ record { user = []; shipped = shipped_rows }
IsTableFor (Some text) rows = user.IsTableOf text rows

-- why the user's table is refused
abbrev pub IsTableFault : Option (List ℕ) → RowsFault → Type 0
IsTableFault None fault = ⊥
IsTableFault (Some text) fault = user.IsRowsFaultOf text fault

-- the cave that the bytes of a structure tell, by the table's rows and this rule
pub record IsCaveOfBytes (bytes : List ℕ) (table : Option (List ℕ)) (rule : Rule) (cave : Cave) : Type 0 where
  pub scan : Structure
  pub rows : Table
  pub scans : Scans bytes scan
  pub told : IsTableFor table rows
  pub built : IsCaveOf scan rows rule cave

-- the bytes are no structure
abbrev pub IsNoStructure : List ℕ → CaveFault → Type 0
IsNoStructure bytes fault = (inner : ScanFault) × structure.IsFaultOf bytes inner × (fault ≡ faults.Scan inner)

-- the table is none
abbrev pub IsNoTable : Option (List ℕ) → CaveFault → Type 0
IsNoTable table fault = (inner : RowsFault) × IsTableFault table inner × (fault ≡ faults.Table inner)

-- why there is no structure with rows: the bytes are no structure; else the table is none
abbrev pub IsFaultOfParts : List ℕ → Option (List ℕ) → CaveFault → Type 0
IsFaultOfParts bytes table fault =
    IsNoStructure bytes fault ⊎ ((scan : Structure) × Scans bytes scan × IsNoTable table fault)

-- the structure names a block without a row
abbrev pub IsUnknownIn : Structure → Option (List ℕ) → CaveFault → Type 0
IsUnknownIn scan table fault = (rows : Table) × IsTableFor table rows
    × ((inner : BuildFault) × IsUnknownBlock scan rows inner × (fault ≡ faults.Build inner))

-- why the bytes tell no cave: they are no structure; else the table is none; else a block is unknown
abbrev pub IsFaultOfBytes : List ℕ → Option (List ℕ) → CaveFault → Type 0
IsFaultOfBytes bytes table fault = IsNoStructure bytes fault
    ⊎ ((scan : Structure) × Scans bytes scan × (IsNoTable table fault ⊎ IsUnknownIn scan table fault))
