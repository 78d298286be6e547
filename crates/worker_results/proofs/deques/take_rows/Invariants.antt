use Rattle.std.proofs.Common.{◌≡◌, ◌+◌, ℕ, length, All}
use Rattle.proof_tree.specs.Piece.{Subproblem}
use Rattle.proof_tree.specs.Weights.{weigh}
use Rattle.worker_results.specs.Naming.{numbers_from}
use Rattle.worker_results.specs.Passes.{IsRow, all_taken}
use Rattle.worker_results.specs.Joining.{numbers_of, total}
use Rattle.worker_results.specs.Parting.{AreOut}
use Rattle.worker_results.proofs.deques.take_rows.Given as goal

abbrev pub invariant-loop-row : goal.invariant-loop-row
invariant-loop-row g l = record {
  numbers : numbers_of l.owners.items ≡ numbers_from 0 g.B.Naming.workers;
  out : AreOut (length l.row-iterator.rest.items) l.owners.items;
  rows : All (IsRow g.B.Naming.workers) l.row-iterator.rest.items;
  pushed : (h : Subproblem → ℕ) → total (λ o. weigh h o.knows.pushed) l.owners.items
      ≡ total (λ o. weigh h o.knows.pushed) l.initial.owners.items;
  taken : (h : Subproblem → ℕ) → total (λ o. weigh h o.knows.taken) l.owners.items
      + total (λ r. weigh h (all_taken r.items)) l.row-iterator.rest.items
      ≡ total (λ o. weigh h o.knows.taken) l.initial.owners.items
      + total (λ r. weigh h (all_taken r.items)) l.initial.row-iterator.rest.items;
}
