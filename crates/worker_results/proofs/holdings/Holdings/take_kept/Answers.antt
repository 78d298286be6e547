use Rattle.worker_results.proofs.HoldingLemmas.{holds_kept}
use Rattle.worker_results.proofs.holdings.Holdings.take_kept.Goals as goal

pub invariant_of-self-in-Some : goal.invariant_of-self-in-Some
invariant_of-self-in-Some g c =
    let i = c.self.inside in (
      c.self.invariant.0,
      holds_kept g.B.Naming.region (g.B.Naming.start i.own.worker) i.own i.passes.items i.closed.items i.opened.items
          i.held.items c.reserve.new.self.items c.push_reserved.new.self.items i.kept.items c.pop.new.self.items
          c.in-Some.piece c.reserve.ensures.items c.push_reserved.ensures.items c.in-Some.ensures.items
          c.self.invariant.1,
    )
