-- A part of an instance, by the indices of its cells and of its places. This is this project's own.
use Rattle.std.specs.Prelude.{◌≡◌, ◌<◌, ◌↔◌, ℕ, ◌*◌, List, [], length, map, slice_index, slice_index_or, All, Contains}
use Rattle.std.specs.List.Sorted.{IsStrictlyIncreasing}
use Rattle.set_cover.specs.Bits.{Has}
use Rattle.set_cover.specs.Instance.{Instance, LightsAt}
use Rattle.set_cover.specs.Sparse.{Sparse, ListsAt}
use Rattle.instance_regions.specs.Region.{IsRegion}

-- ascending indices into a list
pub record AreIndices (indices items : List ℕ) : Type 0 where
  pub ascending : IsStrictlyIncreasing indices
  pub inside : All (λ index. index < length items) indices

-- cells and places of which no place lights another cell and no cell is lit by another place
pub record IsSelfContained (sparse : Sparse) (own placed : List ℕ) : Type 0 where
  pub filled : 0 < length own
  pub cells : AreIndices own sparse.cells
  pub places : AreIndices placed sparse.places
  pub lighting : (place : ℕ) → Contains placed place → (cell : ℕ) × ListsAt sparse place cell
  pub to_own : (place cell : ℕ) → Contains placed place → ListsAt sparse place cell → Contains own cell
  pub by_placed : (place cell : ℕ) → place < length sparse.places → Contains own cell
      → ListsAt sparse place cell → Contains placed place

-- the region has these cells and places, and their rows
pub record IsRestriction (sparse : Sparse) (own placed : List ℕ) (region : Instance) : Type 0 where
  pub kept : IsRegion region
  pub cells : region.cells ≡ map (slice_index sparse.cells) own
  pub places : region.places ≡ map (slice_index sparse.places) placed
  pub lit : (place cell : ℕ) → place < length placed → cell < length own
      → LightsAt region place cell ↔ ListsAt sparse (slice_index placed place) (slice_index own cell)

-- the row has the ranks of the cells
pub record IsOfRanks (cells ranks : List ℕ) (width : ℕ) (row : List ℕ) : Type 0 where
  pub whole : length row ≡ width
  pub exact : (bit : ℕ) → Has row bit ↔ ((cell : ℕ) × Contains cells cell × (bit ≡ slice_index ranks cell))

-- each of the cells has a rank, and rows of that width have room for it
pub record HaveRanks (cells ranks : List ℕ) (width : ℕ) : Type 0 where
  pub each : (cell : ℕ) → Contains cells cell → (cell < length ranks) × (slice_index ranks cell < 64 * width)

-- the row has a bit for each of its cells that the place lights
pub record IsCopied (sparse : Sparse) (own : List ℕ) (width place : ℕ) (row : List ℕ) : Type 0 where
  pub whole : length row ≡ width
  pub exact : (cell : ℕ) → Has row cell ↔ ((cell < length own) × ListsAt sparse place (slice_index own cell))

-- the rows of the first `count` places
pub record AreCopied (sparse : Sparse) (own placed : List ℕ) (width count : ℕ) (rows : List (List ℕ)) : Type 0 where
  pub whole : length rows ≡ count
  pub each : (place : ℕ) → place < count
      → IsCopied sparse own width (slice_index placed place) (slice_index_or rows place [])

-- each of the cells has its index as its rank
pub record AreRanks (sparse : Sparse) (own ranks : List ℕ) : Type 0 where
  pub whole : length ranks ≡ length sparse.cells
  pub listed : (index : ℕ) → index < length own → slice_index ranks (slice_index own index) ≡ index

-- the place with this index lights some cell
pub record IsLighting (sparse : Sparse) (place : ℕ) : Type 0 where
  pub inside : place < length sparse.places
  pub cell : ℕ
  pub lit : ListsAt sparse place cell
