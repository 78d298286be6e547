use Rattle.std.proofs.Common.{◌≡◌, All, length}
use Rattle.worker_results.specs.Naming.{numbers_from}
use Rattle.worker_results.specs.Joining.{numbers_of}
use Rattle.search_pool.specs.Slots.{IsNewRow, IsReady}
use Rattle.search_pool.proofs.slots.lend_all.Given as goal

-- this count of rows was lent, and no pass took anything
abbrev pub invariant-loop-number : goal.invariant-loop-number
invariant-loop-number g l = record {
  numbers : numbers_of l.owned.items ≡ numbers_from 0 g.B.Naming.workers;
  ready : All (IsReady g.B.Naming.start l.number) l.owned.items;
  rows : All (IsNewRow g.B.Naming.workers) l.rows.items;
  each : length l.rows.items ≡ l.number;
}
