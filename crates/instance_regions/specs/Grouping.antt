-- Cells and places by the label of their region. This is this project's own.
use Rattle.std.specs.Prelude.{◌≡◌, ◌<◌, ℕ, List, length, slice_index}
use Rattle.set_cover.specs.Sparse.{Sparse, ListsAt}

-- the cell has the label
pub record IsCellOf (labels : List ℕ) (label cell : ℕ) : Type 0 where
  pub inside : cell < length labels
  pub there : slice_index labels cell ≡ label

-- the place lights a cell with the label
pub record IsPlaceOfLabel (sparse : Sparse) (labels : List ℕ) (label place : ℕ) : Type 0 where
  pub inside : place < length sparse.places
  pub cell : ℕ
  pub lit : ListsAt sparse place cell
  pub there : slice_index labels cell ≡ label
