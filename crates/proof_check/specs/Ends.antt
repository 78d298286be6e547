-- What is asked at the end, cell by cell. This is this project's own.
use Rattle.std.specs.Prelude.{◌≡◌, ◌↔◌, ℕ, ◌<◌, Bool, true, false, not, IsTrue, List, length, Contains, Option}
use Rattle.std.specs.Prelude.{MatchOption, slice_index_or}
use Rattle.cave_base.specs.Box.{cell_count}
use Rattle.cave_model.specs.Cave.{Cave}
use Rattle.proof_check.specs.Refused.{LightsTwo, IsBadCell}
use Rattle.lit_lists.specs.Lists.{LitLists, AreListsOf, is_marked}
use Rattle.node_judges.specs.Tests.{lit_by}
use Rattle.proof_check.specs.Homes.{Homes, AreHomesOf}
use Rattle.proof_check.specs.declared.homes.Home.{Home}
use Rattle.proof_check.specs.declared.homes.Home.TheVariants as home

-- where the cell stands
abbrev pub home_of : Homes → ℕ → Home
home_of h cell = slice_index_or h.homes cell home.Nowhere

-- whether the cell stands in any list
abbrev pub is_somewhere : Home → Bool
is_somewhere home.Nowhere = false
is_somewhere (home.Only i) = true
is_somewhere home.Several = true

-- listed where it may not be, or in two lists
abbrev pub is_misplaced : Home → Bool → Bool
is_misplaced home.Nowhere allowed = false
is_misplaced (home.Only i) allowed = not allowed
is_misplaced home.Several allowed = true

-- in no list where it has to be in one, in one where it may not be, or in two
abbrev pub is_unparted : Home → Bool → Bool
is_unparted home.Nowhere needed = needed
is_unparted (home.Only i) needed = not needed
is_unparted home.Several needed = true

-- it holds of no cell of a box of `count` cells
pub record IsNoneBelow (LineKind : ℕ → Type 0) (count : ℕ) : Type 0 where
  pub each : (cell : ℕ) → cell < count → ¬ LineKind cell

-- the first cell of the box of which it holds
pub record IsFirstBelow (LineKind : ℕ → Type 0) (count cell : ℕ) : Type 0 where
  pub inside : cell < count
  pub is : LineKind cell
  pub before : IsNoneBelow LineKind cell

-- the first cell of the box of which it holds, or none where it holds of none
abbrev pub IsFirst : (ℕ → Type 0) → ℕ → Option ℕ → Type 0
IsFirst LineKind count result = MatchOption result (IsNoneBelow LineKind count) (IsFirstBelow LineKind count)

-- in a box of `count` cells each dark one stands in just one list, and no other in any
pub record AreParted (lists : LitLists) (regions : Homes) (count : ℕ) : Type 0 where
  pub each : (cell : ℕ) → cell < count → is_unparted (home_of regions cell) (is_marked lists.dark cell) ≡ false

-- one of the places is listed
abbrev pub HasTorch : List ℕ → Homes → Type 0
HasTorch places torches = (place : ℕ) × Contains places place × IsTrue (is_somewhere (home_of torches place))

-- the cell is listed where it isn't marked as allowed, or stands in two lists
abbrev pub IsMisplaced : List Bool → Homes → ℕ → Type 0
IsMisplaced allowed torches cell = IsTrue (is_misplaced (home_of torches cell) (is_marked allowed cell))

-- a dark cell that no listed place lights
pub record IsUnlitBy (lists : LitLists) (torches : Homes) (cell : ℕ) : Type 0 where
  pub dark : IsTrue (is_marked lists.dark cell)
  pub unlit : ¬ HasTorch (lit_by lists cell) torches

-- whether the place lights cells of two of whatever lists the homes are of
pub record DecidesLights (cave : Cave) (lists : LitLists) (regions : Homes) (place : ℕ) (result : Bool) : Type 0 where
  pub each : (parts : List (List ℕ)) → AreListsOf cave lists → AreHomesOf parts regions
      → length regions.homes ≡ cell_count cave.size
      → IsTrue result ↔ LightsTwo cave parts place

-- the first cell that keeps whatever lists the homes are of from being regions
pub record DecidesBad (cave : Cave) (lists : LitLists) (regions : Homes) (count : ℕ) (result : Option ℕ) : Type 0 where
  pub each : (parts : List (List ℕ)) → AreListsOf cave lists → AreHomesOf parts regions
      → length regions.homes ≡ cell_count cave.size
      → IsFirst (IsBadCell cave parts) count result

-- no cell of the box keeps whatever lists the homes are of from being regions
pub record NoneBad (cave : Cave) (lists : LitLists) (regions : Homes) (count : ℕ) : Type 0 where
  pub each : (parts : List (List ℕ)) → AreListsOf cave lists → AreHomesOf parts regions
      → length regions.homes ≡ cell_count cave.size
      → IsNoneBelow (IsBadCell cave parts) count
