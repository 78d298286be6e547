use Rattle.std.proofs.Common.{◌≡◌}
use Rattle.search_pool.proofs.worker.show_some.Given as goal

abbrev pub invariant-loop : goal.invariant-loop
invariant-loop g l = (l.holdings.worker ≡ l.fn.holdings.worker) × (l.holdings.closed ≡ l.fn.holdings.closed)
