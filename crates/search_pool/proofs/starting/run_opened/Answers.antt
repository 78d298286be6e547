use Rattle.std.proofs.Common.{[], ◌∷◌, List, ap, subst, sym}
use Rattle.proof_tree.specs.Piece.{Subproblem}
use Rattle.worker_results.specs.Joining.{StartWith}
use Rattle.worker_results.specs.Naming.{AreThieves, Thief}
use Rattle.search_pool.specs.Deques.{AreThievesOf, deque_at, pushed_at}
use Rattle.search_pool.specs.Slots.{Owner}
use Rattle.search_pool.proofs.StartLemmas.{owners_named, start_with, thieves_named}
use Rattle.search_pool.proofs.starting.run_opened.Goals as goal

pub run_named-requires-clause-dealt : goal.run_named-requires-clause-dealt
run_named-requires-clause-dealt g c κs within =
    let owners = c.in_ok-owners.owners.items in
    let thieves = c.in_ok-thieves.thieves.items in
    let pieces : List Subproblem = c.in_ok-root.root ∷ [] in
    let stocked = c.in_ok-owners.ensures.stocked in
    record {
      ends = owners_named pieces owners stocked;
      at_ends = subst (λ (l : List Thief). AreThieves (deque_at owners) 0 l) (sym c.deref-2.ensures.value)
          (thieves_named pieces owners thieves stocked
          (subst (λ (l : List Owner). AreThievesOf l thieves) c.deref.ensures.value c.in_ok-thieves.ensures));
      stocked = subst (λ (l : List Subproblem). StartWith (pushed_at owners) c.args.run.workers.number l)
          (ap (λ (p : Subproblem). p ∷ []) c.in_ok-root.ensures)
          (subst (λ n. StartWith (pushed_at owners) n pieces) c.in_ok-owners.ensures.each
          (start_with pieces owners stocked));
    }
