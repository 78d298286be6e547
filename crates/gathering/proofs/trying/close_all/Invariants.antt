use Rattle.std.proofs.Common.{◌≡◌, ◌+◌, length}
use Rattle.event_core.specs.Kept.{state_of}
use Rattle.gathering.proofs.CountLemmas.{AllCountOn}
use Rattle.gathering.proofs.trying.close_all.Given as goal

abbrev pub invariant-loop-work : goal.invariant-loop-work
invariant-loop-work l =
    AllCountOn (state_of l.fn.core) l.fn.works.items l.counts.items
    (state_of l.core) l.worker l.work-iterator.rest.items
    × (l.worker + length l.work-iterator.rest.items ≡ length l.fn.works.items)
