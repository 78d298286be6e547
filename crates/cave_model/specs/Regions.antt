-- Parts of the cells to be lit that no place lights together. These are this project's own.
use Rattle.std.specs.Prelude.{◌≡◌, ◌↔◌, ℕ, ◌<◌, List, length, Contains, All, slice_index_or, [], flat_map}
use Rattle.cave_model.specs.Cave.{Cave}
use Rattle.cave_model.specs.Spawn.{IsDark}
use Rattle.cave_model.specs.Coverage.{Coverage, of_cave}
use Rattle.cave_model.specs.Plan.{AreDistinct}

-- the cells of all regions, one after another
abbrev pub all_cells : List (List ℕ) → List ℕ
all_cells regions = flat_map (λ cells. cells) regions

-- no place covers cells of two of the lists
abbrev pub AreApart : Coverage → List (List ℕ) → Type 0
AreApart coverage regions = (place a b i j : ℕ) → coverage.Place place → coverage.Covers place a
    → coverage.Covers place b
    → Contains (slice_index_or regions i []) a → Contains (slice_index_or regions j []) b → i ≡ j

-- lists of cells, none empty, that hold each cell of the kind once and nothing else; no place covers cells of two
pub record ArePartsOf (coverage : Coverage) (Kind : ℕ → Type 0) (regions : List (List ℕ)) : Type 0 where
  pub filled : All (λ cells. 0 < length cells) regions
  pub once : AreDistinct (all_cells regions)
  pub exact : (cell : ℕ) → Contains (all_cells regions) cell ↔ Kind cell
  pub apart : AreApart coverage regions

-- the regions of a cave: parts of its dark cells
abbrev pub AreRegions : Cave → List (List ℕ) → Type 0
AreRegions cave regions = ArePartsOf (of_cave cave) (IsDark cave) regions
