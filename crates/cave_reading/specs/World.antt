-- The cave that a structure tells, by a table of rows. This is this project's own.
use Rattle.std.specs.Prelude.{◌≡◌, ℕ, ◌<◌, ◌≤◌, List, [], length, Contains, slice_get, slice_index_or, Option, Some}
use Rattle.std.specs.Prelude.{None, option_and_then}
use Rattle.cave_base.specs.Box.{cell_count}
use Rattle.scan_core.specs.Scan.{Structure}
use Rattle.scan_core.specs.declared.state.BlockState.{BlockState}
use Rattle.cave_base.specs.declared.class.Class.{Class}
use Rattle.cave_base.specs.Class.{void}
use Rattle.block_rows.specs.Rows.{Table, row_for}
use Rattle.block_rows.specs.declared.row.Row.{Row}
use Rattle.cave_model.specs.Rule.{Rule}
use Rattle.cave_model.specs.Cave.{Cave, class_at}
use Rattle.cave_reading.specs.declared.fault.BuildFault.{BuildFault}
use Rattle.cave_reading.specs.declared.fault.BuildFault.TheVariants.{UnknownBlock}

-- the row of an index into the palette
abbrev pub palette_row : Table → List BlockState → ℕ → Option Row
palette_row rows palette index = option_and_then (row_for rows) (slice_get palette index)

-- the class of a cell that names this index, or of one that names none
abbrev pub IsClassOf : Table → List BlockState → Option ℕ → Class → Type 0
IsClassOf rows palette None class = class ≡ void
IsClassOf rows palette (Some index) class = (row : Row) × (palette_row rows palette index ≡ Some row)
    × (class ≡ row.class)

-- the cave has the structure's box, and for each cell the class of its state
pub record IsCaveOf (scan : Structure) (rows : Table) (rule : Rule) (cave : Cave) : Type 0 where
  pub sized : cave.size ≡ scan.size
  pub ruled : cave.rule ≡ rule
  pub whole : length cave.classes ≡ cell_count scan.size
  pub classed : (cell : ℕ) → cell < cell_count scan.size
      → IsClassOf rows scan.palette (slice_index_or scan.cells cell None) (class_at cave cell)

-- the least index that a cell names and no row fits
pub record IsUnknown (scan : Structure) (rows : Table) (index : ℕ) : Type 0 where
  pub used : Contains scan.cells (Some index)
  pub rowless : palette_row rows scan.palette index ≡ None
  pub first : (other : ℕ) → Contains scan.cells (Some other) → palette_row rows scan.palette other ≡ None
      → index ≤ other

-- the name of a block state of the palette
abbrev pub name_at : Structure → ℕ → List ℕ
name_at scan index = (slice_index_or scan.palette index (record { name = []; props = [] })).name

-- an unknown block, with its index and its name
abbrev pub IsUnknownBlock : Structure → Table → BuildFault → Type 0
IsUnknownBlock scan rows fault = (index : ℕ) × IsUnknown scan rows index
    × (fault ≡ UnknownBlock index (name_at scan index))
