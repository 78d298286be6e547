use Rattle.std.proofs.Common.{◌≡◌, ◌+◌, ℕ}
use Rattle.proof_tree.specs.Piece.{Subproblem}
use Rattle.proof_tree.specs.Weights.{weigh}
use Rattle.worker_results.specs.Joining.{total}
use Rattle.worker_results.specs.Parting.{AreOut}
use Rattle.worker_results.proofs.deques.drain_all.Given as goal

abbrev pub invariant-loop-own : goal.invariant-loop-own
invariant-loop-own g l = record {
  out : AreOut 0 l.own-iterator.rest.items;
  all : (h : Subproblem → ℕ) → total (λ o. weigh h o.knows.pushed) l.initial.own-iterator.rest.items
      + total (λ o. weigh h o.knows.taken) l.own-iterator.rest.items
      ≡ (total (λ o. weigh h o.knows.taken) l.initial.own-iterator.rest.items + weigh h l.left.items)
      + total (λ o. weigh h o.knows.pushed) l.own-iterator.rest.items;
}
