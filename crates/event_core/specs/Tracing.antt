-- What a name leads to.
use Rattle.std.specs.Prelude.{◌≡◌, ℕ, List, Option, Some, None}
use Rattle.event_core.specs.State.{State, Status, waiting, held, Part, HasPart, IsLeft}
use Rattle.event_core.specs.Shape.{Shape, part_in}
use Rattle.event_core.specs.declared.tracing.Standing.{Standing}
use Rattle.event_core.specs.declared.tracing.Standing.TheVariants.{Waiting, Held, Past}
use Rattle.event_core.specs.declared.tracing.Traced.{Traced}

-- so the status stands: the piece waits, is held by this worker, or is neither
abbrev pub StandsAs : Standing → Status → Type 0
StandsAs Waiting status = status ≡ waiting
StandsAs (Held worker) status = status ≡ held worker
StandsAs Past status = ¬ IsLeft status

-- these places are chosen and barred in the piece, and this became of it
abbrev pub IsTracedTo : List ℕ → List ℕ → Standing → Option Part → Type 0
IsTracedTo chosen barred standing None = ⊥
IsTracedTo chosen barred standing (Some part) =
    (part.chosen ≡ chosen) × (part.barred ≡ barred) × StandsAs standing part.status

-- from this shape, in which these places are chosen and barred, the name leads to just this piece, or to none
abbrev pub IsTraced : List ℕ → List ℕ → Shape → List ℕ → Option Traced → Type 0
IsTraced chosen barred shape name None = part_in chosen barred shape name ≡ None
IsTraced chosen barred shape name (Some traced) =
    IsTracedTo traced.chosen.items traced.barred.items traced.standing (part_in chosen barred shape name)

-- so the piece of this name stands, if there is one
abbrev pub IsStanding : State → List ℕ → Standing → Type 0
IsStanding state name Waiting = (chosen : List ℕ) × (barred : List ℕ) × HasPart state name chosen barred waiting
IsStanding state name (Held worker) =
    (chosen : List ℕ) × (barred : List ℕ) × HasPart state name chosen barred (held worker)
IsStanding state name Past =
    (chosen barred : List ℕ) (status : Status) → HasPart state name chosen barred status → ¬ IsLeft status
