-- For each place what it may still light. This is this project's own.
use Rattle.std.specs.Prelude.{◌≡◌, ◌≢◌, ◌⊎◌, ◌<◌, ◌+◌, ℕ, List, [], length, slice_index_or, Contains}
use Rattle.std.specs.Prelude.{Option, Some, None}
use Rattle.weight_judge.specs.declared.claims.Claim.{Claim}
use Rattle.weight_judge.specs.declared.rooms.Room.{Room}
use Rattle.weight_judge.specs.Held.{held, weight_claimed}

-- what the place may still light, if it lights a cell at all
abbrev pub room_at : List (Option Room) → ℕ → Option Room
room_at rooms place = slice_index_or rooms place None

-- `count` places, none of which lights a cell
pub record AreNoRooms (count : ℕ) (rooms : List (Option Room)) : Type 0 where
  pub whole : length rooms ≡ count
  pub none : (place : ℕ) → room_at rooms place ≡ None

-- the claim's weight was taken from what the place may light of the group
abbrev pub Takes : Claim → Option Room → Room → Type 0
Takes claim None new = (new.group ≡ claim.group) × (new.left + claim.weight ≡ claim.capacity)
Takes claim (Some old) new = (old.group ≡ claim.group) × (new.group ≡ claim.group)
    × (new.left + claim.weight ≡ old.left)

-- it can't be: there is too little, or the place lights cells of another group
abbrev pub LacksRoom : Claim → Option Room → Type 0
LacksRoom claim None = claim.capacity < claim.weight
LacksRoom claim (Some old) = (old.group ≢ claim.group) ⊎ (old.left < claim.weight)

-- it was taken from the room of a place, which has one then
abbrev pub TakesAt : ℕ → Claim → List (Option Room) → List (Option Room) → Type 0
TakesAt place claim old new = (room : Room) × (room_at new place ≡ Some room) × Takes claim (room_at old place) room

-- it was taken from the room of the place, and from no other
pub record IsTaken (place : ℕ) (claim : Claim) (old new : List (Option Room)) : Type 0 where
  pub whole : length new ≡ length old
  pub others : (other : ℕ) → other ≢ place → room_at new other ≡ room_at old other
  pub here : TakesAt place claim old new

-- the place lights no cell any more, and the others what they did
pub record IsCleared (place : ℕ) (old new : List (Option Room)) : Type 0 where
  pub whole : length new ≡ length old
  pub here : room_at new place ≡ None
  pub others : (other : ℕ) → other ≢ place → room_at new other ≡ room_at old other

-- it was taken from the rooms of these places, and from no other
pub record AreTaken (places : List ℕ) (claim : Claim) (old new : List (Option Room)) : Type 0 where
  pub whole : length new ≡ length old
  pub others : (other : ℕ) → (¬ Contains places other) → room_at new other ≡ room_at old other
  pub here : (place : ℕ) → Contains places place → TakesAt place claim old new

-- one of the places can't give it
abbrev pub LackRoom : Claim → List ℕ → List (Option Room) → Type 0
LackRoom claim places rooms = (place : ℕ) × Contains places place × LacksRoom claim (room_at rooms place)

-- some claims, all of one group, whose capacity is what they weigh and what is left
pub record HasRoom (claims : List Claim) (room : Room) : Type 0 where
  pub some : (claim : Claim) × Contains claims claim
  pub group : (claim : Claim) → Contains claims claim → claim.group ≡ room.group
  pub kept : (claim : Claim) → Contains claims claim → room.left + weight_claimed claims ≡ claim.capacity

-- what a place may still light that holds these claims
abbrev pub IsRoomOf : List Claim → Option Room → Type 0
IsRoomOf claims None = claims ≡ []
IsRoomOf claims (Some room) = HasRoom claims room

-- each place has the room that these claims leave it
pub record AreRooms (claims : List Claim) (lists : List (List ℕ)) (rooms : List (Option Room)) : Type 0 where
  pub each : (place : ℕ) → IsRoomOf (held place claims lists) (room_at rooms place)
