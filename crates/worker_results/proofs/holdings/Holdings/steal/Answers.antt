use Rattle.std.proofs.Common.{refl, arith}
use Rattle.worker_results.proofs.HoldingLemmas.{took_now}
use Rattle.worker_results.proofs.holdings.Holdings.steal.Goals as goal

pub invariant_of-self-in-Got : goal.invariant_of-self-in-Got
invariant_of-self-in-Got g c =
    let i = c.self.inside in
    let own = i.own in
    let start = g.B.Naming.start own.worker in
    let more = c.in-Got.ensures.tried.more in (
      (c.self.invariant.0.0, c.in-Got.ensures.row),
      took_now g.B.Naming.region start start own own i.passes.items c.try_one.new.passes.items i.closed.items
          i.opened.items i.held.items c.reserve.new.self.items c.push_reserved.new.self.items i.kept.items
          c.in-Got.piece refl c.reserve.ensures.items c.push_reserved.ensures.items
          (record { pushed = refl; taken = λ h. (let m = more h in omega arith) }) c.self.invariant.1,
    )
