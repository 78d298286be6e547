use Rattle.std.proofs.Common.{[], ◌∷◌, refl, ap, ◌∙◌, Vec, Global, arith}
use Rattle.crossbeam_deque.specs.Handles.{worker_view}
use Rattle.proof_tree.specs.Piece.{Subproblem}
use Rattle.proof_tree.specs.Weights.{weigh}
use Rattle.piece_deque.specs.declared.dealt.Dealt.{Dealt}
use Rattle.piece_deque.proofs.TotalLemmas.{weigh_append}
use Rattle.worker_results.proofs.own.Own.drain.Goals as goal
use Rattle.worker_results.proofs.own.Own.drain.Goals.{in-Got, in-Again}

pub loop-preserved : goal.loop-preserved
loop-preserved g c = elim c.match-last_take.branch [
  | in-Got w ↦
      let i = c.loop.invariant in
      let now = w.in-Got.ensures.done in
      record {
        flavor = w.in-Got.ensures.same.1 ∙ i.flavor;
        alone = (
          ap (λ (d : Dealt). d.first) now ∙ i.alone.0,
          ap (λ (d : Dealt). d.spent) now ∙ i.alone.1,
          ap (λ (d : Dealt). d.out) now ∙ i.alone.2,
        );
        pushed = ap (λ (d : Dealt). d.pushed) now ∙ i.pushed;
        taken = λ h.
            let a = i.taken h in
            let b = ap (λ (d : Dealt). weigh h d.taken) now in
            let d = weigh_append h (worker_view c.loop.owner).taken (w.in-Got.piece ∷ []) in
            let e = ap (λ (v : Vec Subproblem Global). weigh h v.items) w.left-is in
            let f = ap (weigh h) w.push_reserved.ensures.items in
            let g = weigh_append h c.reserve.new.self.items (w.in-Got.piece ∷ []) in
            let k = ap (weigh h) c.reserve.ensures.items in omega arith;
      }
  | in-Again w ↦ absurd (w.in-Again.ensures.sure refl)
]
