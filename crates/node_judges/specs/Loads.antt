-- What claims take from the rooms of places, where a barred place may lack room. This is this project's own.
use Rattle.std.specs.Prelude.{◌≡◌, ℕ, Bool, List, length, Contains, Option, None, MatchBool}
use Rattle.lit_lists.specs.Lists.{LitLists}
use Rattle.weight_judge.specs.declared.claims.Claim.{Claim}
use Rattle.weight_judge.specs.declared.rooms.Room.{Room}
use Rattle.weight_judge.specs.Held.{AreAllKept}
use Rattle.weight_judge.specs.Rooms.{room_at, TakesAt, LacksRoom}
use Rattle.node_judges.specs.Tests.{lit_by}
use Rattle.node_judges.specs.Weighed.{AreAllLeft}

-- the rooms of all but these places are what they were
pub record ChangeAt (places : List ℕ) (old new : List (Option Room)) : Type 0 where
  pub whole : length new ≡ length old
  pub others : (other : ℕ) → (¬ Contains places other) → room_at new other ≡ room_at old other

-- the claim's weight was taken from the rooms of those of these places that aren't barred
pub record AreTakenOpen (places barred : List ℕ) (claim : Claim) (old new : List (Option Room)) : Type 0 where
  pub change : ChangeAt places old new
  pub here : (place : ℕ) → Contains places place → (¬ Contains barred place) → TakesAt place claim old new

-- one of them can't give it
abbrev pub LackOpenRoom : List ℕ → List ℕ → Claim → List (Option Room) → Type 0
LackOpenRoom places barred claim rooms = (place : ℕ) × Contains places place × (¬ Contains barred place)
    × LacksRoom claim (room_at rooms place)

-- these places light no cell any more, and the others what they did
pub record AreCleared (places : List ℕ) (old new : List (Option Room)) : Type 0 where
  pub change : ChangeAt places old new
  pub here : (place : ℕ) → Contains places place → room_at new place ≡ None

-- the place lights none of the cells of the claims
abbrev pub LightsNone : LitLists → List Claim → ℕ → Type 0
LightsNone lists claims place = (claim : Claim) → Contains claims claim → ¬ Contains (lit_by lists claim.cell) place

-- `count` places, of which none has a room but those that light a cell of the claims
pub record AreWithin (lists : LitLists) (claims : List Claim) (count : ℕ) (rooms : List (Option Room)) : Type 0 where
  pub whole : length rooms ≡ count
  pub none : (place : ℕ) → LightsNone lists claims place → room_at rooms place ≡ None

-- whether each place that isn't barred holds such claims as it may
abbrev pub DecidesKept : LitLists → List ℕ → List Claim → Bool → Type 0
DecidesKept lists barred claims result = MatchBool result
    ((places : List (List ℕ)) × AreAllLeft lists barred claims places × AreAllKept claims places)
    ((places : List (List ℕ)) × AreAllLeft lists barred claims places × (¬ AreAllKept claims places))
