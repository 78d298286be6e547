-- The finest parts of a set cover instance that no place lights together. This is this project's own.
use Rattle.std.specs.Prelude.{◌≡◌, ◌↔◌, ℕ, List, [], map, slice_index, All, Contains, Option, MatchOption}
use Rattle.std.specs.List.Sorted.{IsStrictlyIncreasing}
use Rattle.cave_model.specs.Coverage.{Coverage}
use Rattle.cave_model.specs.Regions.{ArePartsOf}
use Rattle.set_cover.specs.Instance.{Instance, LightsIn, of_instance}
use Rattle.set_cover.specs.Sparse.{Sparse, ListsIn, of_sparse}
use Rattle.instance_regions.specs.Region.{IsRegion}

-- one place covers both cells
abbrev pub AreLinked : Coverage → ℕ → ℕ → Type 0
AreLinked coverage a b = (place : ℕ) × coverage.Covers place a × coverage.Covers place b

-- a row of cells from one to the other, in which one place covers each and the next
pub data AreChained (coverage : Coverage) (from : ℕ) : ℕ → Type 0 where
  here : AreChained coverage from from
  onward : {before : ℕ} → AreChained coverage from before → (cell : ℕ) → AreLinked coverage before cell
      → AreChained coverage from cell

-- the region has of the problem's light all that falls on its cells, and nothing else
pub record IsPartOf (problem : Sparse) (region : Instance) : Type 0 where
  pub kept : IsRegion region
  pub of_it : (cell : ℕ) → Contains region.cells cell → Contains problem.cells cell
  pub exact : (place cell : ℕ) → LightsIn region place cell ↔ (Contains region.cells cell × ListsIn problem place cell)

-- the cells of each region, a list for each
abbrev pub cells_of_each : List Instance → List (List ℕ)
cells_of_each regions = map (λ region. region.cells) regions

-- the least cell, as cells ascend
abbrev pub least_cell : Instance → ℕ
least_cell region = slice_index region.cells 0

-- any two cells of a region are joined
abbrev pub IsOnePiece : Instance → Type 0
IsOnePiece region = (a b : ℕ) → Contains region.cells a → Contains region.cells b
    → AreChained (of_instance region) a b

-- the regions of a problem, by their least cells
pub record AreRegionsOf (problem : Sparse) (regions : List Instance) : Type 0 where
  pub parts : ArePartsOf (of_sparse problem) (Contains problem.cells) (cells_of_each regions)
  pub each : All (IsPartOf problem) regions
  pub finest : All IsOnePiece regions
  pub ordered : IsStrictlyIncreasing (map least_cell regions)

-- the one region of all cells, and none where there is no cell
abbrev pub IsWholeRegion : Sparse → Option Instance → Type 0
IsWholeRegion problem found = MatchOption found (problem.cells ≡ []) (λ region. (region.cells ≡ problem.cells)
    × IsPartOf problem region)
