-- In which of some lists each cell stands. This is this project's own.
use Rattle.std.specs.Prelude.{◌≡◌, ◌↔◌, ℕ, ◌<◌, nat_eq, if◌then◌else◌, Bool, List, [], ◌∷◌, ◌++◌, length, Contains}
use Rattle.std.specs.Prelude.{slice_index_or, IsTrue}
use Rattle.proof_check.specs.Refused.{IsInTwo, IsListed}
use Rattle.proof_check.specs.declared.homes.Home.{Home}
use Rattle.proof_check.specs.declared.homes.Home.TheVariants as home

-- the list with this number has the cell
abbrev pub Stands : List (List ℕ) → ℕ → ℕ → Type 0
Stands lists i cell = Contains (slice_index_or lists i []) cell

-- where the cell stands: in none of the lists, in this one alone, or in two of them
abbrev pub IsHomeOf : List (List ℕ) → ℕ → Home → Type 0
IsHomeOf lists cell home.Nowhere = ¬ IsListed lists cell
IsHomeOf lists cell (home.Only i) = Stands lists i cell × ((j : ℕ) → Stands lists j cell → j ≡ i)
IsHomeOf lists cell home.Several = IsInTwo lists cell

-- where the cells of either home stand
abbrev pub both_homes : Home → Home → Home
both_homes home.Nowhere second = second
both_homes home.Several second = home.Several
both_homes (home.Only i) home.Nowhere = home.Only i
both_homes (home.Only i) home.Several = home.Several
both_homes (home.Only i) (home.Only j) = if nat_eq i j then home.Only i else home.Several

-- the home of each cell of a box, and how many lists there are
pub record Homes : Type 0 where
  pub homes : List Home
  pub count : ℕ

-- each cell's home tells where it stands in these lists, and as many are counted as there are
pub record AreHomesOf (lists : List (List ℕ)) (h : Homes) : Type 0 where
  pub counted : h.count ≡ length lists
  pub each : (cell : ℕ) → cell < length h.homes → IsHomeOf lists cell (slice_index_or h.homes cell home.Nowhere)

-- cells were put into the list with this number
pub record PutsAll (number : ℕ) (cells : List ℕ) (old new : List Home) : Type 0 where
  pub whole : length new ≡ length old
  pub here : (cell : ℕ) → Contains cells cell → cell < length old
      → slice_index_or new cell home.Nowhere ≡ both_homes (slice_index_or old cell home.Nowhere) (home.Only number)
  pub others : (cell : ℕ) → (¬ Contains cells cell)
      → slice_index_or new cell home.Nowhere ≡ slice_index_or old cell home.Nowhere

-- what held of some lists holds with these cells as the next one
pub record Joins (cells : List ℕ) (old new : Homes) : Type 0 where
  pub each : (lists : List (List ℕ)) → AreHomesOf lists old → AreHomesOf (lists ++ cells ∷ []) new
  pub whole : length new.homes ≡ length old.homes

-- some two of the cells stand in two lists, or one of them does
abbrev pub AreInTwo : List (List ℕ) → List ℕ → Type 0
AreInTwo lists cells = (i j a b : ℕ) × (i < j) × Stands lists i a × Stands lists j b × Contains cells a
    × Contains cells b

-- whether two of these cells, or one of them, stand in two of whatever lists the homes are of
pub record DecidesTwo (cells : List ℕ) (h : Homes) (result : Bool) : Type 0 where
  pub each : (lists : List (List ℕ)) → AreHomesOf lists h → ((cell : ℕ) → Contains cells cell
      → cell < length h.homes) → IsTrue result ↔ AreInTwo lists cells
