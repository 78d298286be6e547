use Rattle.std.proofs.Common.{◌≡◌}
use Rattle.search_pool.proofs.worker.next.Given as goal

abbrev pub invariant-loop-deque : goal.invariant-loop-deque
invariant-loop-deque g l = (l.holdings.worker ≡ l.fn.holdings.worker) × (l.holdings.closed ≡ l.fn.holdings.closed)
