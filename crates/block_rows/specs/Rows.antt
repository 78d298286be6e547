-- Which row a block state has: the first that fits. The rows and the look-up are this project's own.
use Rattle.std.specs.Prelude.{ℕ, ◌&&◌, ◌++◌, Bool, not, List, codes, bytes_eq, find, Option, All}
use Rattle.std.specs.List.{list_any, list_all}
use Rattle.std.specs.Option.{option_or}
use Rattle.scan_core.specs.declared.state.BlockState.{BlockState}
use Rattle.block_rows.specs.declared.row.Row.{Row}
use Rattle.cave_base.specs.Class.{IsSoundClass}

-- a table of rows: the user's go before the shipped ones
pub record Table : Type 0 where
  pub user : List Row
  pub shipped : List Row

-- a row for whatever no other row names
abbrev pub is_wildcard : Row → Bool
is_wildcard row = bytes_eq row.name (codes "*")

-- the state has this property with this value
abbrev pub has_prop : BlockState → (List ℕ × List ℕ) → Bool
has_prop state asked = list_any (λ told. bytes_eq told.0 asked.0 && bytes_eq told.1 asked.1) state.props

-- the state has each property that the row asks for, with its value
abbrev pub conditions_hold : BlockState → Row → Bool
conditions_hold state row = list_all (has_prop state) row.when

-- the row, no wildcard, names the block of the state, and its conditions hold
abbrev pub fits : BlockState → Row → Bool
fits state row = not (is_wildcard row) && bytes_eq row.name state.name && conditions_hold state row

-- the row is a wildcard, and its conditions hold
abbrev pub fits_as_wildcard : BlockState → Row → Bool
fits_as_wildcard state row = is_wildcard row && conditions_hold state row

-- the first row that fits by its name, else the first of the user's that fits whatever the name
abbrev pub row_for : Table → BlockState → Option Row
row_for table state =
    option_or (find (fits state) (table.user ++ table.shipped)) (find (fits_as_wildcard state) table.user)

-- each of the rows has a sound class
abbrev pub AreSoundRows : List Row → Type 0
AreSoundRows rows = All (λ row. IsSoundClass row.class) rows

-- what every table keeps
pub record IsSoundTable (table : Table) : Type 0 where
  pub user_sound : AreSoundRows table.user
  pub shipped_sound : AreSoundRows table.shipped
