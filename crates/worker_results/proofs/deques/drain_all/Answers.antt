use Rattle.std.proofs.Common.{◌≡◌, ◌∷◌, List, ap, subst, arith}
use Rattle.std.proofs.lemmas.List.Elements.{All-tail}
use Rattle.proof_tree.specs.Weights.{weigh}
use Rattle.worker_results.specs.Passes.{Owned}
use Rattle.worker_results.specs.Joining.{total}
use Rattle.worker_results.specs.Parting.{AreOut}
use Rattle.worker_results.proofs.deques.drain_all.Goals as goal

pub loop-own-preserved : goal.loop-own-preserved
loop-own-preserved g c =
    let i = c.loop-own.invariant in
    let own : Owned = c.in-Some.own in
    let rest : List Owned = c.next.new.self.rest.items in
    let step = c.in-Some.ensures.steps.0 in
    let out : AreOut 0 (own ∷ rest) = subst (AreOut 0) step i.out in
    record {
      out = All-tail (λ (o : Owned). o.knows.out ≡ 0) own rest out;
      all = λ h. (let a = i.all h in let b = c.drain.ensures c.if-not-drain.false h in
          let e = ap (total (λ (o : Owned). weigh h o.knows.pushed)) step in
          let f = ap (total (λ (o : Owned). weigh h o.knows.taken)) step in omega arith);
    }
