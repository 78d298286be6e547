use Rattle.std.proofs.Common.{ap, ◌∙◌}
use Rattle.piece_deque.specs.declared.dealt.Dealt.{Dealt}
use Rattle.worker_results.proofs.HoldingLemmas.{took_now, own_took}
use Rattle.worker_results.proofs.holdings.Holdings.take.Goals as goal

pub invariant_of-self-in-Got : goal.invariant_of-self-in-Got
invariant_of-self-in-Got g c =
    let now = c.in-Got.ensures.done in
    let i = c.self.inside in
    let own = c.take.new.self in
    let p = c.in-Got.piece in (
      (ap (λ (d : Dealt). d.out) now ∙ c.self.invariant.0.0, c.self.invariant.0.1),
      took_now g.B.Naming.region (g.B.Naming.start i.own.worker) (g.B.Naming.start own.worker) i.own own
          i.passes.items i.passes.items i.closed.items i.opened.items i.held.items c.reserve.new.self.items
          c.push_reserved.new.self.items i.kept.items p
          (ap g.B.Naming.start c.in-Got.ensures.same) c.reserve.ensures.items c.push_reserved.ensures.items
          (own_took i.own own i.passes.items p now) c.self.invariant.1,
    )
