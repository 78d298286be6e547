-- An instance of set cover as lists: cells to be lit, places for torches, and for each place, by its index, the indices
-- of the cells that it lights. Its memory is in proportion to what is lit; rows of bits take a bit for each pair. This
-- is this project's own.
use Rattle.std.specs.Prelude.{◌≡◌, ◌<◌, ℕ, List, length, Contains}
use Rattle.std.specs.List.Sorted.{IsStrictlyIncreasing}
use Rattle.cave_model.specs.Coverage.{Coverage}
use Rattle.set_cover.specs.Buckets.{bucket}
use Rattle.set_cover.specs.Instance.{StandsAt}

-- cells to be lit, places for torches, and for each place the indices of the cells that it lights
pub record Sparse : Type 0 where
  pub cells : List ℕ
  pub places : List ℕ
  pub lit : List (List ℕ)

-- the place with the first index lights the cell with the second
abbrev pub ListsAt : Sparse → ℕ → ℕ → Type 0
ListsAt sparse place cell = Contains (bucket sparse.lit place) cell

-- the place lights the cell
pub record ListsIn (sparse : Sparse) (place cell : ℕ) : Type 0 where
  pub place_index : ℕ
  pub cell_index : ℕ
  pub place_there : StandsAt sparse.places place_index place
  pub cell_there : StandsAt sparse.cells cell_index cell
  pub lit : ListsAt sparse place_index cell_index

-- which places an instance has, and what each lights, by their numbers
abbrev pub of_sparse : Sparse → Coverage
of_sparse sparse = record { Place = Contains sparse.places; Covers = ListsIn sparse }

-- what every such instance keeps: all ascending, a list for each place, of indices of its cells, and a place for each
-- cell
pub record IsSparse (sparse : Sparse) : Type 0 where
  pub cells_ascend : IsStrictlyIncreasing sparse.cells
  pub places_ascend : IsStrictlyIncreasing sparse.places
  pub whole : length sparse.lit ≡ length sparse.places
  pub of_cells : (place cell : ℕ) → place < length sparse.places → ListsAt sparse place cell
      → cell < length sparse.cells
  pub lightable : (cell : ℕ) → cell < length sparse.cells → (place : ℕ) × (place < length sparse.places)
      × ListsAt sparse place cell
