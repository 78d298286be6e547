-- What is printed of the rows that serve block states: a line for each state of a palette. The text is this project's
-- own.
use Rattle.std.specs.Prelude.{ℕ, Bool, true, false, List, [], ◌++◌, Option, Some, None, codes}
use Rattle.std.specs.Fmt.{decimal}
use Rattle.std.specs.List.{flat_map}
use Rattle.block_rows.specs.Rows.{Table, row_for}
use Rattle.block_rows.specs.declared.row.Row.{Row}
use Rattle.cave_base.specs.declared.class.Class.{Class}
use Rattle.cave_reading.specs.Texts.{shown_name}
use Rattle.cave_runs.specs.DarkText.{new_line}
use Rattle.scan_core.specs.declared.state.BlockState.{BlockState}

-- the word of a column behind a space, where the column is yes
abbrev pub column_text : Bool → List ℕ → List ℕ
column_text false word = []
column_text true word = codes " " ++ word

-- a class: its opacity, its emission, and the columns that are yes
abbrev pub class_text : Class → List ℕ
class_text class = decimal class.opacity ++ (codes " " ++ (decimal class.emission
    ++ (column_text class.free (codes "free") ++ (column_text class.stand (codes "stand")
    ++ (column_text class.put (codes "put") ++ (column_text class.top (codes "top")
    ++ column_text class.side (codes "side")))))))

-- a row, or a hyphen where none fits
abbrev pub row_text : Option Row → List ℕ
row_text None = codes "-"
row_text (Some row) = class_text row.class

-- the line of a block state: the row that serves it, a tab, and its name
abbrev pub state_line : Table → BlockState → List ℕ
state_line rows state = row_text (row_for rows state) ++ (codes "\t" ++ (shown_name state.name ++ new_line))

-- the lines of the states of a palette, in its order
abbrev pub rows_text : Table → List BlockState → List ℕ
rows_text rows palette = flat_map (state_line rows) palette
