-- What gleaning keeps.
use Rattle.std.specs.Prelude.{◌≡◌, ℕ, ◌≤◌, Bool, true, false, List, length, min}
use Rattle.set_cover.specs.Instance.{Instance}
use Rattle.instance_regions.specs.Cover.{Covering}
use Rattle.proof_tree.specs.Piece.{Fathomed}
use Rattle.event_core.specs.State.{State, HasPart, IsDone, waiting, held}
use Rattle.event_core.specs.Events.{IsWorker}
use Rattle.event_core.specs.Plays.{Steps}
use Rattle.event_core.specs.declared.event.Event.TheVariants.{Look, Offer, Close}
use Rattle.gathering.specs.Gathered.{Gleans, GleansOne}

-- no worker holds a piece
abbrev pub NoneHeld : State → Type 0
NoneHeld state = (name chosen barred : List ℕ) (worker : ℕ) → ¬ HasPart state name chosen barred (held worker)

-- no piece of this name waits
abbrev pub IsNoneWaiting : State → List ℕ → Type 0
IsNoneWaiting state name = (chosen barred : List ℕ) → ¬ HasPart state name chosen barred waiting

-- the caller's thread may glean: it is known, no worker holds a piece, and its desk has this aim and is of this region
pub record MayGlean (state : State) (caller aim : ℕ) (region : Instance) : Type 0 where
  pub known : IsWorker state caller
  pub none_held : NoneHeld state
  pub aimed : aim ≡ state.aim
  pub of_it : region ≡ state.region

-- it may glean one piece, whoever holds others
pub record MayGleanOne (state : State) (caller aim : ℕ) (region : Instance) : Type 0 where
  pub known : IsWorker state caller
  pub aimed : aim ≡ state.aim
  pub of_it : region ≡ state.region

-- it closes the waiting pieces of these names in turn, and then nothing waits or is held
pub record GleansAll (old : State) (caller : ℕ) (names : List (List ℕ)) (new : State) : Type 0 where
  pub gleans : Gleans old caller names new
  pub done : IsDone new

-- the piece of this name is closed, or none of this name waits and all stays
abbrev pub GleansWhere : State → ℕ → List ℕ → State → Bool → Type 0
GleansWhere old caller name new true = GleansOne old caller name new
GleansWhere old caller name new false = IsNoneWaiting old name × (new ≡ old)

-- the caller's thread holds the closed piece, and its floor is at least the aim, or the size of a cover of the region
pub record MayFinish (state : State) (caller : ℕ) (closed : Fathomed) (cover : Covering) : Type 0 where
  pub known : IsWorker state caller
  pub holds : HasPart state closed.piece.name closed.piece.chosen closed.piece.barred (held caller)
  pub piece_of_it : closed.piece.region ≡ state.region
  pub cover_of_it : cover.region ≡ state.region
  pub reaches : min state.aim (length cover.places) ≤ closed.floor

-- it offers the cover, looks, and closes the piece
pub record Finishes (old : State) (caller : ℕ) (closed : Fathomed) (cover : Covering) (new : State) : Type 0 where
  pub offered : State
  pub offers : Steps old (Offer caller cover) true offered
  pub seen : State
  pub looks : Steps offered (Look caller) true seen
  pub closes : Steps seen (Close caller closed) true new
