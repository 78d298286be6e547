-- The cells of some kind, in the order of their numbers. This is the project's own.
use Rattle.std.specs.Prelude.{◌↔◌, ℕ, List, Contains}
use Rattle.std.specs.List.Sorted.{IsStrictlyIncreasing}

-- the cells of this kind, and no others, stand in the list, ascending
pub record ListsAll (kind : ℕ → Type 0) (cells : List ℕ) : Type 0 where
  pub ascending : IsStrictlyIncreasing cells
  pub exact : (cell : ℕ) → Contains cells cell ↔ kind cell
