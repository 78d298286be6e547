-- The region of a label. This is this project's own.
use Rattle.std.specs.Prelude.{◌≡◌, ◌↔◌, ◌<◌, ℕ, List, length, slice_index, Contains}
use Rattle.set_cover.specs.Instance.{Instance}
use Rattle.set_cover.specs.Sparse.{Sparse}
use Rattle.instance_regions.specs.Splitting.{IsPartOf, IsOnePiece, least_cell}

-- the cell with this number has the label
pub record HasLabel (sparse : Sparse) (labels : List ℕ) (label cell : ℕ) : Type 0 where
  pub index : ℕ
  pub inside : index < length sparse.cells
  pub there : slice_index sparse.cells index ≡ cell
  pub labelled : slice_index labels index ≡ label

-- the region has the cells with the label
pub record IsRegionOf (sparse : Sparse) (labels : List ℕ) (label : ℕ) (region : Instance) : Type 0 where
  pub part : IsPartOf sparse region
  pub cells : (cell : ℕ) → Contains region.cells cell ↔ HasLabel sparse labels label cell
  pub least : least_cell region ≡ slice_index sparse.cells label
  pub one : IsOnePiece region

-- the cell is the label of a region, its own
pub record IsLabel (labels : List ℕ) (label : ℕ) : Type 0 where
  pub inside : label < length labels
  pub own : slice_index labels label ≡ label
