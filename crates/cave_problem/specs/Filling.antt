-- What filling leaves: for each place a list of the cells that it lights, and a row with a bit for each cell that some
-- place lights. Places and cells are named by their indices. This is this project's own.
use Rattle.std.specs.Prelude.{◌≡◌, ◌<◌, ◌↔◌, ℕ, List, [], length, slice_index, All}
use Rattle.std.specs.List.Sorted.{IsStrictlyIncreasing}
use Rattle.cave_base.specs.Box.{cell_count}
use Rattle.set_cover.specs.Bits.{Has, IsRowOf}
use Rattle.set_cover.specs.Buckets.{AreBucketsOf, AreNone}
use Rattle.set_cover.specs.Instance.{words_for}
use Rattle.cave_model.specs.Cave.{Cave}
use Rattle.cave_model.specs.Torches.{ArePlaces, Lights}

-- for each of `count` cells its index in the list, where it stands there
pub record AreIndices (count : ℕ) (cells indices : List ℕ) : Type 0 where
  pub whole : length indices ≡ count
  pub exact : (cell index : ℕ) → cell < count → index < length cells
      → (slice_index indices cell ≡ index) ↔ (slice_index cells index ≡ cell)

-- the place with the first index lights the cell with the second
pub record LightsBy (cave : Cave) (cells places : List ℕ) (place cell : ℕ) : Type 0 where
  pub listed : place < length places
  pub inside : cell < length cells
  pub lights : Lights cave (slice_index places place) (slice_index cells cell)

-- the bits of the row are those of the cells that some place lights
pub record AreCovered (cave : Cave) (cells places covered : List ℕ) : Type 0 where
  pub exact : (cell : ℕ) → Has covered cell ↔ ((place : ℕ) × LightsBy cave cells places place cell)

-- what filling leaves
pub record IsFilling (cave : Cave) (cells places : List ℕ) (lit : List (List ℕ)) (covered : List ℕ) : Type 0 where
  pub lists : AreBucketsOf (LightsBy cave cells places) (length places) lit
  pub row : AreCovered cave cells places covered

-- what it begins with: an empty list for each place, and a row for the cells without a bit
pub record AreUnfilled (cells places : List ℕ) (lit : List (List ℕ)) (covered : List ℕ) : Type 0 where
  pub lists : AreNone (length places) lit
  pub none : IsRowOf [] covered
  pub wide : length covered ≡ words_for (length cells)

-- cells of the box, ascending
pub record IsListed (cave : Cave) (cells : List ℕ) : Type 0 where
  pub ascending : IsStrictlyIncreasing cells
  pub inside : All (λ cell. cell < cell_count cave.size) cells

-- the legal places, ascending, which are cells of the box
pub record AreListedPlaces (cave : Cave) (places : List ℕ) : Type 0 where
  pub legal : ArePlaces cave places
  pub inside : All (λ cell. cell < cell_count cave.size) places
