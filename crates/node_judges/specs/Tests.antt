-- The tests of nodes, by the lists of who lights what. This is this project's own.
use Rattle.std.specs.Prelude.{◌≡◌, ◌≢◌, ◌↔◌, ℕ, ◌<◌, ◌⊎◌, Bool, List, IsTrue, Contains, MatchBool}
use Rattle.std.specs.List.Sorted.{IsStrictlyIncreasing}
use Rattle.cave_model.specs.Plan.{AreDistinct}
use Rattle.lit_lists.specs.Lists.{LitLists, is_marked, row_at}

-- the places that light the cell
abbrev pub lit_by : LitLists → ℕ → List ℕ
lit_by lists cell = row_at lists.pairs.lit_by cell

-- one of these is one of those
abbrev pub Meet : List ℕ → List ℕ → Type 0
Meet these those = (place : ℕ) × Contains these place × Contains those place

-- one of the places that isn't barred is one of those
abbrev pub MeetOpen : List ℕ → List ℕ → List ℕ → Type 0
MeetOpen places barred those = (place : ℕ) × Contains places place × (¬ Contains barred place) × Contains those place

-- the cell is of the region, and no chosen place lights it
pub record IsFree (lists : LitLists) (cells chosen : List ℕ) (cell : ℕ) : Type 0 where
  pub of_it : Contains cells cell
  pub unlit : ¬ Meet (lit_by lists cell) chosen

-- free cells, of which no place that isn't barred lights two
pub record AreApartIn (lists : LitLists) (cells chosen barred these : List ℕ) : Type 0 where
  pub free : (cell : ℕ) → Contains these cell → IsFree lists cells chosen cell
  pub apart : (place a b : ℕ) → Contains these a → Contains these b → Contains (lit_by lists a) place
      → Contains (lit_by lists b) place → (¬ Contains barred place) → a ≡ b

-- the places that aren't barred, ascending
pub record AreLeft (places barred left : List ℕ) : Type 0 where
  pub ascending : IsStrictlyIncreasing left
  pub exact : (place : ℕ) → Contains left place ↔ (Contains places place × (¬ Contains barred place))

-- the cell isn't of the region, or is lit by a chosen place or by this one
abbrev pub IsServed : LitLists → List ℕ → List ℕ → ℕ → ℕ → Type 0
IsServed lists cells chosen by cell = Contains cells cell → Meet (lit_by lists cell) chosen
    ⊎ Contains (lit_by lists cell) by

-- each of these cells isn't of the region, or is lit by a chosen place or by this one
abbrev pub AreServed : LitLists → List ℕ → List ℕ → ℕ → List ℕ → Type 0
AreServed lists cells chosen by these = (cell : ℕ) → Contains these cell → IsServed lists cells chosen by cell

-- the place may be left out for the other
pub record IsDominatedIn (lists : LitLists) (cells chosen barred : List ℕ) (place by : ℕ) : Type 0 where
  pub legal : IsTrue (is_marked lists.places place)
  pub by_legal : IsTrue (is_marked lists.places by)
  pub other : place ≢ by
  pub free : ¬ Contains barred place
  pub by_free : ¬ Contains barred by
  pub unchosen : ¬ Contains chosen place
  pub served : AreServed lists cells chosen by (row_at lists.pairs.lights place)

-- a legal place that is neither chosen nor barred
pub record MayBePickedIn (lists : LitLists) (chosen barred : List ℕ) (place : ℕ) : Type 0 where
  pub legal : IsTrue (is_marked lists.places place)
  pub unchosen : ¬ Contains chosen place
  pub free : ¬ Contains barred place

-- each place that lights a cell is below this number
pub record AreInside (lists : LitLists) (limit : ℕ) : Type 0 where
  pub each : (place cell : ℕ) → Contains (lit_by lists cell) place → place < limit

-- whether distinct cells may stand in a leaf
abbrev pub DecidesApart : LitLists → List ℕ → List ℕ → List ℕ → List ℕ → Bool → Type 0
DecidesApart lists cells chosen barred these result = MatchBool result
    (AreApartIn lists cells chosen barred these) (AreDistinct these → ¬ AreApartIn lists cells chosen barred these)

-- the lists of the places and those of the cells have the same pairs, of cells below this number
pub record AreMatched (lists : LitLists) (limit : ℕ) : Type 0 where
  pub same : (place cell : ℕ) → Contains (row_at lists.pairs.lights place) cell ↔ Contains (lit_by lists cell) place
  pub below : (place cell : ℕ) → Contains (row_at lists.pairs.lights place) cell → cell < limit

-- these are the cells that the places light
pub record AreLitBy (lists : LitLists) (places these : List ℕ) : Type 0 where
  pub each : (cell : ℕ) → Contains these cell ↔ Meet (lit_by lists cell) places

-- the places of each cell ascend
pub record AreAscending (lists : LitLists) : Type 0 where
  pub each : (cell : ℕ) → IsStrictlyIncreasing (lit_by lists cell)

-- the places of each cell ascend, and each is below this number
pub record AreAscendingBelow (lists : LitLists) (limit : ℕ) : Type 0 where
  pub ascending : AreAscending lists
  pub inside : AreInside lists limit
