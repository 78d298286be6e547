use Rattle.std.proofs.Common.{drop}
use Rattle.event_core.specs.Kept.{state_of}
use Rattle.gathering.specs.Playing.{tries_as_long}
use Rattle.gathering.proofs.PlayLemmas.{Leads}
use Rattle.gathering.proofs.opening.open_each.Given as goal

abbrev pub invariant-loop-split : goal.invariant-loop-split
invariant-loop-split l = Leads (state_of l.fn.core) (tries_as_long l.size l.worker l.splits) (state_of l.core)
    (tries_as_long l.size l.worker (drop l.split-index l.splits))
