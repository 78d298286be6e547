use Rattle.std.proofs.Common.{◌≡◌, drop}
use Rattle.event_core.specs.Kept.{state_of}
use Rattle.schedule_law.specs.Listing.{offers}
use Rattle.gathering.proofs.PlayLemmas.{Leads}
use Rattle.gathering.proofs.opening.offer_all.Given as goal

abbrev pub invariant-loop-work : goal.invariant-loop-work
invariant-loop-work l = (l.worker ≡ l.work-index)
    × Leads (state_of l.fn.core) (offers 0 l.works) (state_of l.core) (offers l.worker (drop l.work-index l.works))
