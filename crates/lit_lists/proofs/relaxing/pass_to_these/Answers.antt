use Rattle.std.proofs.Common.{slice_index, ◌∙◌}
use Rattle.cave_model.proofs.FaceLemmas.{neighbours_mutual}
use Rattle.lit_lists.proofs.TakeLemmas.{element_of}
use Rattle.lit_lists.proofs.RelaxLemmas.{listed_start, listed_next, listed_end}
use Rattle.lit_lists.proofs.relaxing.pass_to_these.Goals as goal

pub loop-to-init : goal.loop-to-init
loop-to-init c = record {
  cells = c.requires.cells;
  listed = listed_start c.args.world.now c.args.from (slice_index c.args.levels.now)
      c.args.queue.now.items c.args.these.now;
}

pub offer-requires-clause-shared : goal.offer-requires-clause-shared
offer-requires-clause-shared c = ((c.requires.these.exact (slice_index c.args.these.now c.loop-to.to-index)).0
    (element_of c.args.these.now c.loop-to.to-index c.loop-to-test.true)).shared

pub offer-requires-clause-inside : goal.offer-requires-clause-inside
offer-requires-clause-inside c =
    (neighbours_mutual c.args.world.now.size c.args.from (slice_index c.args.these.now c.loop-to.to-index)
    ((c.requires.these.exact (slice_index c.args.these.now c.loop-to.to-index)).0
    (element_of c.args.these.now c.loop-to.to-index c.loop-to-test.true)).shared).inside

pub loop-to-preserved : goal.loop-to-preserved
loop-to-preserved c = record {
  cells = c.offer.auto.levels ∙ c.loop-to.invariant.cells;
  listed = listed_next c.args.world.now c.args.from (slice_index c.args.levels.now)
      (slice_index c.loop-to.levels) (slice_index c.offer.new.levels)
      c.args.queue.now.items c.loop-to.queue.items c.offer.new.queue.items c.args.these.now
      c.loop-to.to-index c.loop-to.invariant.listed c.in_ok-offer.ensures.grows c.in_ok-offer.ensures.passed;
}

pub returns : goal.returns
returns c =
    listed_end c.args.world.now c.args.from (slice_index c.args.levels.now)
    (slice_index c.loop-to.levels) c.args.queue.now.items c.loop-to.queue.items c.args.these.now
    c.loop-to.to-index c.requires.low c.requires.these c.loop-to-test.false c.loop-to.invariant.listed
