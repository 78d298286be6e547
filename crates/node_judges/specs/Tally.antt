-- A list of cells with how often each stands in it. This is this project's own.
use Rattle.std.specs.Prelude.{◌≡◌, ℕ, ◌+◌, ◌<◌, List, [], ◌∷◌, length, All, nat_eq, if◌then◌else◌, slice_index}

-- a list of cells, and for each cell of a box how often it stands there
pub record Tally : Type 0 where
  pub items : List ℕ
  -- by the number of the cell
  pub counts : List ℕ

-- how often the cell stands in the list
abbrev pub times : ℕ → List ℕ → ℕ
times cell [] = 0
times cell (other ∷ cells) = (if nat_eq other cell then 1 else 0) + times cell cells

-- the listed cells are of the box, and each cell's count is how often it stands in the list
pub record IsTally (tally : Tally) : Type 0 where
  pub inside : All (λ cell. cell < length tally.counts) tally.items
  pub counted : (cell : ℕ) → cell < length tally.counts → slice_index tally.counts cell ≡ times cell tally.items
