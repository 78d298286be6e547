-- Events one after another. This is this project's own.
use Rattle.std.specs.Prelude.{◌≡◌, Bool, true, false, List, [], ◌∷◌}
use Rattle.event_core.specs.State.{State}
use Rattle.event_core.specs.Events.{IsEnabled, Does}
use Rattle.event_core.specs.declared.event.Event.{Event}

-- the event was enabled and is done, or it wasn't and all stays
abbrev pub Steps : State → Event → Bool → State → Type 0
Steps old event true new = IsEnabled old event × Does old event new
Steps old event false new = (¬ IsEnabled old event) × (new ≡ old)

-- events that aren't enabled are dropped
abbrev pub Plays : State → List Event → State → Type 0
Plays old [] new = new ≡ old
Plays old (event ∷ events) new = (done : Bool) × (next : State) × Steps old event done next × Plays next events new
