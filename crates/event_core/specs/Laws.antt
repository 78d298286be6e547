-- What any events leave behind. These are this project's own.
use Rattle.std.specs.Prelude.{ℕ, List, []}
use Rattle.set_cover.specs.Instance.{Instance, of_instance}
use Rattle.proof_rules.specs.Good.{IsCoverOfPiece}
use Rattle.event_core.specs.State.{State, Begins}
use Rattle.event_core.specs.Plays.{Plays}
use Rattle.event_core.specs.declared.event.Event.{Event}

-- the state after these events, for any number of workers, any aim, and any cover that was handed in
pub record IsReached (region : Instance) (events : List Event) (state : State) : Type 0 where
  pub first : List ℕ
  pub aim : ℕ
  pub workers : ℕ
  pub start : State
  pub begins : Begins region first aim workers start
  pub plays : Plays start events state

-- distinct legal places that light each of its cells
abbrev pub IsAnyCover : Instance → List ℕ → Type 0
IsAnyCover region places = IsCoverOfPiece (of_instance region) region.cells [] [] places
