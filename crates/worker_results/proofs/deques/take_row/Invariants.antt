use Rattle.std.proofs.Common.{◌≡◌, ◌+◌, ◌++◌, length, take, drop}
use Rattle.worker_results.specs.Naming.{numbers_from}
use Rattle.worker_results.specs.Passes.{deques}
use Rattle.worker_results.specs.Joining.{numbers_of}
use Rattle.worker_results.specs.Taking.{take_back_row}
use Rattle.worker_results.proofs.deques.take_row.Given as goal

abbrev pub invariant-loop-pass : goal.invariant-loop-pass
invariant-loop-pass g l = record {
  numbers : numbers_of l.owners.items ≡ numbers_from 0 g.B.Naming.workers;
  deques : deques l.pass-iterator.rest.items ≡ numbers_from l.next (length l.pass-iterator.rest.items);
  all : l.next + length l.pass-iterator.rest.items ≡ g.B.Naming.workers;
  done : take l.next l.owners.items ++ take_back_row (drop l.next l.owners.items) l.pass-iterator.rest.items
      ≡ take_back_row l.initial.owners.items l.initial.pass-iterator.rest.items;
}
