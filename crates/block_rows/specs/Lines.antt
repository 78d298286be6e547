-- What the code's table of src/table.rt means, line by line.
use Rattle.std.specs.Prelude.{ℕ, List, ◌++◌, map}
use Rattle.block_rows.specs.declared.row.Row.{Row}
use Rattle.cave_base.specs.declared.class.Class.{Class}
use Rattle.block_rows.specs.declared.table.Line as table
use Rattle.block_rows.specs.declared.table.TheConstants.{PREFIX}

-- a line of the table: the names of its blocks, the properties that it asks for, and the class
pub record Line : Type 0 where
  pub names : List (List ℕ)
  pub when : List (List ℕ × List ℕ)
  pub class : Class

-- the rows of a line, one for each name
abbrev pub rows_in : Line → List Row
rows_in line = map (λ name. record { name = PREFIX.now ++ name; when = line.when; class = line.class }) line.names

-- a line as the code has it
abbrev pub line_of : table.Line → Line
line_of line = record {
  names = map (λ name. name.now) line.names.now;
  when = map (λ asked. (asked.0.now, asked.1.now)) line.when.now;
  class = line.class;
}
