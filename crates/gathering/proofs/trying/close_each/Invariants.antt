use Rattle.std.proofs.Common.{◌+◌, ◌≤◌, length}
use Rattle.event_core.specs.Kept.{state_of}
use Rattle.gathering.proofs.CountLemmas.{CountsOn}
use Rattle.gathering.proofs.trying.close_each.Given as goal

abbrev pub invariant-loop-closed : goal.invariant-loop-closed
invariant-loop-closed l =
    CountsOn (state_of l.fn.core) l.worker l.fn.pieces.items l.count (state_of l.core) l.closed-iterator.rest.items
    × (l.count + length l.closed-iterator.rest.items ≤ length l.fn.pieces.items)
