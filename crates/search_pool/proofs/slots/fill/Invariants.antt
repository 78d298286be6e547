use Rattle.std.proofs.Common.{◌≡◌, ◌+◌, All, length}
use Rattle.search_pool.specs.Seats.{SplitsOff}
use Rattle.search_pool.specs.Slots.{IsNewRow, IsReady}
use Rattle.search_pool.proofs.slots.fill.Given as goal

-- what is left fits, and there is a slot for each end so far, with a seat that was split off
abbrev pub invariant-loop-own : goal.invariant-loop-own
invariant-loop-own g l = record {
  split : SplitsOff l.fn.first (length l.slots.items) l.first;
  ready : All (IsReady g.B.Naming.start g.B.Naming.workers) l.own-iterator.rest.items;
  rows : All (IsNewRow g.B.Naming.workers) l.rows.items;
  each : length l.slots.items + length l.own-iterator.rest.items ≡ length l.initial.own-iterator.rest.items;
}
