use Rattle.std.proofs.Common.{get_or, None, sym, ap, ◌∙◌, arith}
use Rattle.cave_model.proofs.NeighbourLemmas.{listed_shares, listed_inside}
use Rattle.light_flood.proofs.PassLemmas.{flood_here, passing_start, passing_some}
use Rattle.light_flood.proofs.PassLemmas.{passing_none, passing_end}
use Rattle.light_flood.proofs.spreading.Flood.pass_around.Goals.{in-Some+in_ok-offer, in_default}
use Rattle.light_flood.proofs.spreading.Flood.pass_around.Goals as goal

pub loop-to-init : goal.loop-to-init
loop-to-init g c = record {
  cells = c.requires.flood.whole;
  passing = passing_start c.args.world.now c.args.from (g.S.Store.levels c.args.self.now.store)
      c.args.self.now.waiting c.neighbours-to-items.result c.neighbours-to-items.ensures c.requires.flood.flood;
}

pub offer-requires-clause-shared : goal.offer-requires-clause-shared
offer-requires-clause-shared g c =
    let listed = ap (λ l. get_or l c.loop-to.to-index None) (sym c.neighbours-to-items.ensures) ∙ c.in-Some.is in (
      listed_shares c.args.world.now.size c.args.from c.loop-to.to-index c.in-Some.to c.requires.in_box listed,
      listed_inside c.args.world.now.size c.args.from c.loop-to.to-index c.in-Some.to c.requires.in_box listed,
    )

pub offer-requires-clause-flood : goal.offer-requires-clause-flood
offer-requires-clause-flood g c =
    flood_here c.args.world.now c.args.from (g.S.Store.cells c.loop-to.self.store)
    (g.S.Store.levels c.args.self.now.store) (g.S.Store.levels c.loop-to.self.store) c.loop-to.self.waiting
    c.loop-to.invariant.cells c.loop-to.invariant.passing.step

pub loop-to-preserved : goal.loop-to-preserved
loop-to-preserved g c = elim c.match-to.branch [
  | in-Some+in_ok-offer w ↦ rw w.self-is (record {
    cells = w.in_ok-offer.ensures.cells;
    passing = passing_some c.args.world.now c.args.from w.in-Some.to (g.S.Store.levels c.args.self.now.store)
        (g.S.Store.levels c.loop-to.self.store) (g.S.Store.levels w.offer.new.self.store)
        c.loop-to.self.waiting w.offer.new.self.waiting c.neighbours-to-items.result c.loop-to.to-index
        c.loop-to.invariant.passing w.in-Some.is w.in_ok-offer.ensures.step w.in_ok-offer.ensures.passed;
  })
  | in_default w ↦ rw w.self-is (record {
    cells = c.loop-to.invariant.cells;
    passing = passing_none c.args.world.now c.args.from (g.S.Store.levels c.args.self.now.store)
        (g.S.Store.levels c.loop-to.self.store) c.loop-to.self.waiting c.neighbours-to-items.result
        c.loop-to.to-index c.loop-to.invariant.passing w.in_default.is;
  })
]

pub returns-clause-passed : goal.returns-clause-passed
returns-clause-passed g c =
    passing_end c.args.world.now c.args.from (g.S.Store.levels c.args.self.now.store)
    (g.S.Store.levels c.loop-to.self.store) c.loop-to.self.waiting c.neighbours-to-items.result c.loop-to.to-index
    (omega arith) c.loop-to.invariant.passing
