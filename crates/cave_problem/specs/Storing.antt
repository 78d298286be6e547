-- What a block's words say goes to the ends of the places' lists. This is this project's own.
use Rattle.std.specs.Prelude.{◌≡◌, ◌≢◌, ◌<◌, ◌≤◌, ◌↔◌, ℕ, ◌+◌, ◌*◌, ◌/◌, ◌%◌, List, ◌++◌, length, slice_index}
use Rattle.cave_model.specs.Cave.{Cave}
use Rattle.cave_model.specs.Listing.{ListsAll}
use Rattle.set_cover.specs.Buckets.{bucket}
use Rattle.cave_problem.specs.Blocks.{Reaches, IsSet, IsLinked, AreExact, IsComplete}

-- the cells with the indices from 64 times the number on, 64 or as many as there are
pub record IsBlock (cells : List ℕ) (block : ℕ) (sources : List ℕ) : Type 0 where
  pub few : length sources ≤ 64
  pub exact : (bit : ℕ) → bit < 64 → (bit < length sources) ↔ (64 * block + bit < length cells)
  pub same : (bit : ℕ) → bit < length sources → slice_index sources bit ≡ slice_index cells (64 * block + bit)

-- the new list is the old one with the numbers of this kind after it, ascending
pub record HasMore (Kind : ℕ → Type 0) (old new : List ℕ) : Type 0 where
  pub tail : List ℕ
  pub parts : new ≡ old ++ tail
  pub listed : ListsAll Kind tail

-- the index of a cell of the block whose bit is set in the word
pub record IsBitOf (block word cell : ℕ) : Type 0 where
  pub here : cell / 64 ≡ block
  pub set : IsSet word (cell % 64)

-- the cells whose bits are set in the block's word come to the end of the key's list
pub record IsPushedWord (old : List (List ℕ)) (key block word : ℕ) (new : List (List ℕ)) : Type 0 where
  pub whole : length new ≡ length old
  pub more : HasMore (IsBitOf block word) (bucket old key) (bucket new key)
  pub others : (other : ℕ) → other ≢ key → bucket new other ≡ bucket old other

-- the index of a cell of the block, whose cells are the sources, that brings what is needed to the place
pub record IsSourceOf (cave : Cave) (sources : List ℕ) (block place cell : ℕ) : Type 0 where
  pub here : cell / 64 ≡ block
  pub source : cell % 64 < length sources
  pub reaches : Reaches cave (slice_index sources (cell % 64)) cave.rule.need place

-- a bit of a block's word, that of a source that some place lights
pub record IsLitBy (cave : Cave) (sources places : List ℕ) (bit : ℕ) : Type 0 where
  pub place : ℕ
  pub inside : place < length places
  pub source : bit < length sources
  pub reaches : Reaches cave (slice_index sources bit) cave.rule.need (slice_index places place)

-- what each place lights of a block comes to the end of its list; and the word of what some place lights
pub record IsStored (cave : Cave) (sources places : List ℕ) (block : ℕ) (old new : List (List ℕ)) (all : ℕ)
    : Type 0 where
  pub whole : length new ≡ length old
  pub each : (place : ℕ) → place < length places
      → HasMore (IsSourceOf cave sources block (slice_index places place)) (bucket old place) (bucket new place)
  pub lit : (bit : ℕ) → bit < 64 → IsSet all bit ↔ IsLitBy cave sources places bit

-- for whichever sources the words at the levels are, and where the reach has the cells that get what is needed
pub record Stores (cave : Cave) (reach near levels places : List ℕ) (sources count block : ℕ)
    (old new : List (List ℕ)) (all : ℕ) : Type 0 where
  pub stored : (cells : List ℕ) → length cells ≡ sources → IsLinked cave cells reach near count
      → AreExact cave cells reach (cave.rule.need + 1) levels
      → IsComplete cave cells reach count cave.rule.need
      → IsStored cave cells places block old new all
