-- The tests of weighted leaves, by the lists of who lights what. This is this project's own.
use Rattle.std.specs.Prelude.{◌<◌, ◌≤◌, ◌⊎◌, ◌↔◌, ℕ, Bool, List, [], ◌∷◌, length, map, All, Contains, IsTrue, MatchBool}
use Rattle.cave_model.specs.Plan.{AreDistinct}
use Rattle.lit_lists.specs.Lists.{LitLists}
use Rattle.proof_rules.specs.declared.groups.Group.{Group}
use Rattle.proof_rules.specs.Groups.{all_cells_of}
use Rattle.weight_judge.specs.declared.claims.Claim.{Claim}
use Rattle.weight_judge.specs.Claims.{claims_of}
use Rattle.weight_judge.specs.Held.{AreAllKept}
use Rattle.node_judges.specs.Tests.{IsFree, AreLeft, lit_by}

-- the cells of the claims
abbrev pub cells_claimed : List Claim → List ℕ
cells_claimed claims = map (λ claim. claim.cell) claims

-- free cells, each once
pub record AreFreeOnce (lists : LitLists) (cells chosen these : List ℕ) : Type 0 where
  pub distinct : AreDistinct these
  pub free : (cell : ℕ) → Contains these cell → IsFree lists cells chosen cell

-- whether these are free cells, each once; where they are, there are no more of them than this number
pub record DecidesFreeOnce (lists : LitLists) (cells chosen these : List ℕ) (most : ℕ) (result : Bool) : Type 0 where
  pub decides : IsTrue result ↔ AreFreeOnce lists cells chosen these
  pub few : IsTrue result → length these ≤ most

-- for each claim the places that light its cell and aren't barred
abbrev pub AreAllLeft : LitLists → List ℕ → List Claim → List (List ℕ) → Type 0
AreAllLeft lists barred [] [] = Unit {0}
AreAllLeft lists barred [] (places ∷ others) = ⊥
AreAllLeft lists barred (claim ∷ claims) [] = ⊥
AreAllLeft lists barred (claim ∷ claims) (places ∷ others) = AreLeft (lit_by lists claim.cell) barred places
    × AreAllLeft lists barred claims others

-- each group has a capacity
abbrev pub HaveCapacities : List Group → Type 0
HaveCapacities groups = All (λ group. 0 < group.capacity) groups

-- groups with capacities and free cells, each once, of which no place holds more than it may
pub record MayBeWeighted (lists : LitLists) (cells chosen barred : List ℕ) (groups : List Group) : Type 0 where
  pub some : HaveCapacities groups
  pub free : AreFreeOnce lists cells chosen (cells_claimed (claims_of groups))
  pub places : List (List ℕ)
  pub left : AreAllLeft lists barred (claims_of groups) places
  pub kept : AreAllKept (claims_of groups) places

-- groups without capacity, or with other cells, or of which a place holds more than it may
abbrev pub MayNotBeWeighted : LitLists → List ℕ → List ℕ → List ℕ → List Group → Type 0
MayNotBeWeighted lists cells chosen barred groups = (¬ HaveCapacities groups)
    ⊎ (¬ AreFreeOnce lists cells chosen (cells_claimed (claims_of groups)))
    ⊎ ((places : List (List ℕ)) × AreAllLeft lists barred (claims_of groups) places
    × (¬ AreAllKept (claims_of groups) places))

-- whether groups may stand in a weighted leaf; where they may, they have no more cells than this number
pub record DecidesWeighted (lists : LitLists) (cells chosen barred : List ℕ) (most : ℕ) (groups : List Group)
    (result : Bool) : Type 0 where
  pub decides : MatchBool result (MayBeWeighted lists cells chosen barred groups)
      (MayNotBeWeighted lists cells chosen barred groups)
  pub few : IsTrue result → length (all_cells_of groups) ≤ most
