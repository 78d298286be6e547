use Rattle.std.proofs.Common.{get_or, None, slice_index, sym, ap, ◌∙◌, arith}
use Rattle.cave_model.proofs.FaceLemmas.{neighbours_mutual}
use Rattle.lit_lists.proofs.RelaxLemmas.{listed_shares, passing_start, passing_some, passing_none, passing_end}
use Rattle.lit_lists.proofs.relaxing.pass_to_all.Goals.{in-Some+in_ok-offer, in_default}
use Rattle.lit_lists.proofs.relaxing.pass_to_all.Goals as goal

pub loop-to-init : goal.loop-to-init
loop-to-init c = record {
  cells = c.requires.cells;
  passing = passing_start c.args.world.now c.args.from (slice_index c.args.levels.now)
      c.args.queue.now.items c.neighbours-to-items.result c.neighbours-to-items.ensures;
}

pub offer-requires-clause-shared : goal.offer-requires-clause-shared
offer-requires-clause-shared c =
    listed_shares c.args.world.now.size c.args.from c.loop-to.to-index c.in-Some.to c.requires.inside
    (ap (λ l. get_or l c.loop-to.to-index None) (sym c.neighbours-to-items.ensures) ∙ c.in-Some.is)

pub offer-requires-clause-inside : goal.offer-requires-clause-inside
offer-requires-clause-inside c =
    (neighbours_mutual c.args.world.now.size c.args.from c.in-Some.to
    (listed_shares c.args.world.now.size c.args.from c.loop-to.to-index c.in-Some.to c.requires.inside
    (ap (λ l. get_or l c.loop-to.to-index None) (sym c.neighbours-to-items.ensures) ∙ c.in-Some.is))).inside

pub loop-to-preserved : goal.loop-to-preserved
loop-to-preserved c = elim c.match-to.branch [
  | in-Some+in_ok-offer w ↦ rw (w.levels-is, w.queue-is) (record {
    cells = w.offer.auto.levels ∙ c.loop-to.invariant.cells;
    passing = passing_some c.args.world.now c.args.from w.in-Some.to (slice_index c.args.levels.now)
        (slice_index c.loop-to.levels) (slice_index w.offer.new.levels)
        c.args.queue.now.items c.loop-to.queue.items w.offer.new.queue.items c.neighbours-to-items.result
        c.loop-to.to-index c.loop-to.invariant.passing w.in-Some.is
        w.in_ok-offer.ensures.grows w.in_ok-offer.ensures.passed;
  })
  | in_default w ↦ rw (w.levels-is, w.queue-is) (record {
    cells = c.loop-to.invariant.cells;
    passing = passing_none c.args.world.now c.args.from (slice_index c.args.levels.now) (slice_index c.loop-to.levels)
        c.args.queue.now.items c.loop-to.queue.items c.neighbours-to-items.result c.loop-to.to-index
        c.loop-to.invariant.passing w.in_default.is;
  })
]

pub returns : goal.returns
returns c =
    passing_end c.args.world.now c.args.from (slice_index c.args.levels.now)
    (slice_index c.loop-to.levels) c.args.queue.now.items c.loop-to.queue.items c.neighbours-to-items.result
    c.loop-to.to-index (omega arith) c.loop-to.invariant.passing
