use Rattle.std.proofs.Common.{◌≡◌, ◌<◌, List, length, sym, ap, ◌∙◌, subst, arith}
use Rattle.proof_tree.specs.Piece.{Subproblem}
use Rattle.proof_tree.specs.Weights.{weigh}
use Rattle.piece_deque.specs.declared.dealt.Dealt.{Dealt}
use Rattle.worker_results.specs.Holdings.{held_of, HeldSoundly}
use Rattle.worker_results.specs.Passes.{Owned}
use Rattle.worker_results.proofs.HoldingLemmas.{put_back, shows_kept, weigh_first}
use Rattle.worker_results.proofs.holdings.Holdings.show_oldest.Goals as goal

pub invariant_of-self : goal.invariant_of-self
invariant_of-self g c =
    let i = c.self.inside in
    let took = c.remove-oldest.ensures in
    let now = c.in-Ok.ensures.ok in
    let own = c.push.new.self in
    let some : 0 < length i.kept.items = (let l = took.len in omega arith) in (
      (ap (λ (d : Dealt). d.out) now ∙ c.self.invariant.0.0, c.self.invariant.0.1),
      shows_kept g.B.Naming.region (g.B.Naming.start i.own.worker) (g.B.Naming.start own.worker) i.own own
          i.passes.items i.closed.items i.opened.items i.held.items i.kept.items c.remove-oldest.new.self.items
          c.remove-oldest.result (ap g.B.Naming.start c.in-Ok.ensures.same) now
          (λ h. let w = weigh_first h i.kept.items c.remove-oldest.result some took.value in
          let e = ap (weigh h) took.items in omega arith) c.self.invariant.1,
    )

pub invariant_of-self-in-Err : goal.invariant_of-self-in-Err
invariant_of-self-in-Err g c =
    let i = c.self.inside in
    let took = c.remove-oldest.ensures in
    let err = c.in-Err.ensures.err in
    let own = c.push.new.self in
    let more = c.push_reserved.ensures in
    let turned = c.rotate_right.ensures in
    let some : 0 < length i.kept.items = (let l = took.len in omega arith) in
    let back : c.rotate_right.new.self.items ≡ i.kept.items = turned.items
    ∙ put_back i.kept.items c.remove-oldest.new.self.items c.push_reserved.new.self.items c.remove-oldest.result
    c.in-Err.back _ some took.value took.items err.0 more.items (omega (arith, took.len, more.len)) in
    let same : own ≡ i.own = (λ k. record { worker = c.in-Err.ensures.same k; knows = err.1 k }) in (
      (ap (λ (d : Dealt). d.out) err.1 ∙ c.self.invariant.0.0, c.self.invariant.0.1),
      subst (λ (x : Owned × List Subproblem). HeldSoundly g.B.Naming.region (g.B.Naming.start x.0.worker)
          (held_of x.0 i.passes.items i.closed.items i.opened.items i.held.items x.1))
          (λ k. (sym same k, sym back k)) c.self.invariant.1,
    )
