use Rattle.std.proofs.Common.{◌≡◌, ◌+◌, ◌++◌, All, length}
use Rattle.worker_results.specs.Naming.{numbers_from}
use Rattle.worker_results.specs.Joining.{numbers_of}
use Rattle.search_pool.specs.Slots.{AreOwners, IsReady}
use Rattle.search_pool.proofs.slots.owned.Given as goal

-- the ends so far have their numbers, and those that are left follow
abbrev pub invariant-loop-owner : goal.invariant-loop-owner
invariant-loop-owner g l = record {
  numbers : numbers_of l.owned.items ++ numbers_from l.worker (length l.owner-iterator.rest.items)
      ≡ numbers_from 0 (length l.initial.owner-iterator.rest.items);
  ready : All (IsReady g.B.Naming.start 0) l.owned.items;
  left : AreOwners g.B.Naming.deque g.B.Naming.start l.worker l.owner-iterator.rest.items;
  few : l.worker + length l.owner-iterator.rest.items ≡ length l.initial.owner-iterator.rest.items;
}
