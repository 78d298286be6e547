use Rattle.std.proofs.Common.{◌≡◌}
use Rattle.worker_results.specs.Holdings.{AreClosedFrom}
use Rattle.search_pool.proofs.worker.work_one.Given as goal

-- these are this worker's holdings, and each floor reaches what the desk showed last
abbrev pub invariant-loop : goal.invariant-loop
invariant-loop g l = record {
  worker : l.holdings.worker ≡ l.fn.post.worker;
  region : l.desk.region ≡ g.B.Naming.region;
  floors : AreClosedFrom g.B.Naming.region l.desk.knows.seen l.holdings.closed;
}
