use Rattle.std.proofs.Common.{◌+◌, ◌∷◌, ◌++◌, [], ℕ, List, ◌∙◌, All, append_assoc, length, subst, sym, ap, arith}
use Rattle.std.proofs.lemmas.List.Elements.{All-push}
use Rattle.worker_results.specs.Naming.{numbers_from}
use Rattle.worker_results.specs.Passes.{Owned}
use Rattle.worker_results.specs.Joining.{numbers_of}
use Rattle.search_pool.specs.Slots.{AreOwners, IsReady, Owner, ready}
use Rattle.search_pool.proofs.SlotLemmas.{numbers_push}
use Rattle.search_pool.proofs.slots.owned.Goals as goal

pub loop-owner-preserved : goal.loop-owner-preserved
loop-owner-preserved g c =
    let i = c.loop-owner.invariant in
    let n = c.loop-owner.worker in
    let so_far = c.loop-owner.owned.items in
    let own = c.new.result in
    let pushed = c.in_ok-push.ensures.items in
    let rest = c.next.new.self.rest.items in
    let step = c.in-Some.ensures.steps.0 in
    let left = subst (λ (l : List Owner). AreOwners g.B.Naming.deque g.B.Naming.start n l) step i.left in
    let number = ap (λ (o : Owned). o.worker) c.new.ensures in
    record {
      numbers = ap (λ l. numbers_of l ++ numbers_from (n + 1) (length rest)) pushed
          ∙ ap (λ l. l ++ numbers_from (n + 1) (length rest)) (numbers_push so_far own)
          ∙ append_assoc (numbers_of so_far) (own.worker ∷ []) (numbers_from (n + 1) (length rest))
          ∙ ap (λ (w : ℕ). numbers_of so_far ++ w ∷ numbers_from (n + 1) (length rest)) number
          ∙ ap (λ (l : List Owner). numbers_of so_far ++ numbers_from n (length l)) (sym step)
          ∙ i.numbers;
      ready = subst (All (IsReady g.B.Naming.start 0)) (sym pushed)
          (All-push (IsReady g.B.Naming.start 0) so_far own i.ready
          (ap (λ (o : Owned). o.knows) c.new.ensures ∙ left.2
          ∙ ap (λ (w : ℕ). ready (g.B.Naming.start w) 0) (sym number)));
      left = left.3;
      few = (let e = ap length step in let f = i.few in omega (arith, e, f));
    }
