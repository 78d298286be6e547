-- Which claims a place holds, and which it may hold together. This is this project's own.
use Rattle.std.specs.Prelude.{◌≡◌, ℕ, ◌<◌, ◌≤◌, Bool, cond, List, [], ◌∷◌, ◌++◌, slice_index_or, Contains, All}
use Rattle.std.specs.List.{sum_by}
use Rattle.cave_model.specs.Plan.{AreDistinct}
use Rattle.cave_model.specs.Coverage.{Coverage}
use Rattle.proof_rules.specs.Omitted.{is_among}
use Rattle.proof_rules.specs.Good.{AreOpen}
use Rattle.weight_judge.specs.declared.claims.Claim.{Claim}

-- the list at an index; past the end it is empty
abbrev pub places_at : List (List ℕ) → ℕ → List ℕ
places_at lists index = slice_index_or lists index []

-- the claim alone, if it is held
abbrev pub if_held : Bool → Claim → List Claim
if_held b claim = cond b (claim ∷ []) []

-- the claims whose lists of places have the place
abbrev pub held : ℕ → List Claim → List (List ℕ) → List Claim
held place [] lists = []
held place (claim ∷ claims) [] = []
held place (claim ∷ claims) (places ∷ lists) = if_held (is_among places place) claim ++ held place claims lists

-- what the claims weigh together
abbrev pub weight_claimed : List Claim → ℕ
weight_claimed claims = sum_by (λ claim. claim.weight) claims

-- claims that one place may hold: all of one group, whose capacity is enough for them together
pub record AreKept (claims : List Claim) : Type 0 where
  pub one_group : (a b : Claim) → Contains claims a → Contains claims b → a.group ≡ b.group
  pub within : (a : Claim) → Contains claims a → weight_claimed claims ≤ a.capacity

-- each place holds such as it may
pub record AreAllKept (claims : List Claim) (lists : List (List ℕ)) : Type 0 where
  pub each : (place : ℕ) → AreKept (held place claims lists)

-- distinct places below this number in each list
pub record AreListsBelow (count : ℕ) (lists : List (List ℕ)) : Type 0 where
  pub once : (index : ℕ) → AreDistinct (places_at lists index)
  pub below : (index : ℕ) → All (λ place. place < count) (places_at lists index)

-- for each claim all places that may still be taken to light its cell
abbrev pub AreAllOpen : Coverage → List ℕ → List Claim → List (List ℕ) → Type 0
AreAllOpen coverage barred [] [] = Unit {0}
AreAllOpen coverage barred [] (places ∷ lists) = ⊥
AreAllOpen coverage barred (claim ∷ claims) [] = ⊥
AreAllOpen coverage barred (claim ∷ claims) (places ∷ lists) = AreOpen coverage barred claim.cell places
    × AreAllOpen coverage barred claims lists
