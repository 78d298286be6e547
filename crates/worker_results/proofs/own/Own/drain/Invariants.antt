use Rattle.std.proofs.Common.{◌≡◌, ◌+◌, ℕ}
use Rattle.crossbeam_deque.specs.Handles.{worker_flavor, worker_view}
use Rattle.proof_tree.specs.Piece.{Subproblem}
use Rattle.proof_tree.specs.Weights.{weigh}
use Rattle.piece_deque.specs.Rule.{IsAlone}
use Rattle.worker_results.proofs.own.Own.drain.Given as goal

abbrev pub invariant-loop : goal.invariant-loop
invariant-loop g l = record {
  flavor : worker_flavor l.owner ≡ 0;
  alone : IsAlone (worker_view l.owner);
  pushed : (worker_view l.owner).pushed ≡ l.fn.self.knows.pushed;
  taken : (h : Subproblem → ℕ) → weigh h l.fn.self.knows.taken + weigh h l.left.items
      ≡ weigh h (worker_view l.owner).taken + weigh h l.fn.left.items;
}
