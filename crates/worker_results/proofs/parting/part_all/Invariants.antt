use Rattle.std.proofs.Common.{◌≡◌, ◌+◌, ◌++◌, length}
use Rattle.worker_results.specs.Joining.{numbers_of, workers_of, works_of}
use Rattle.worker_results.specs.Parting.{AreParted}
use Rattle.worker_results.proofs.parting.part_all.Given as goal

abbrev pub invariant-loop-done : goal.invariant-loop-done
invariant-loop-done g l = record {
  seat : l.parts.first.beacon ≡ g.B.Naming.beacon;
  apart : AreParted g.B.Naming.region g.B.Naming.start g.B.Naming.workers l.fn.first.knows l.parts.first.knows
      l.parts.owners.items l.parts.rows.items l.parts.works.items;
  numbers : numbers_of l.parts.owners.items ++ workers_of l.done-iterator.rest.items
      ≡ workers_of l.initial.done-iterator.rest.items;
  rows : length l.parts.rows.items + length l.done-iterator.rest.items ≡ length l.initial.done-iterator.rest.items;
  works : l.parts.works.items ++ works_of l.done-iterator.rest.items ≡ works_of l.initial.done-iterator.rest.items;
}
