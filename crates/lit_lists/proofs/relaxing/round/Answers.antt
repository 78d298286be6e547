use Rattle.std.proofs.Common.{◌≡◌, slice_index, sym, subst, ◌∙◌, ◌<◌, ◌≤◌, arith}
use Rattle.std.proofs.lemmas.Grind.{get_or_default_zero}
use Rattle.cave_base.specs.Box.{cell_count}
use Rattle.lit_lists.proofs.RoundLemmas.{going_inside, going_next, going_end}
use Rattle.lit_lists.proofs.relaxing.round.Goals as goal

pub pass_on-requires-clause-inside : goal.pass_on-requires-clause-inside
pass_on-requires-clause-inside c =
    let at : c.index-from.result.now ≡ slice_index c.loop-index.queue.items c.loop-index.index =
    c.index-from.ensures ∙ get_or_default_zero c.loop-index.queue.items c.loop-index.index c.index-from.result.now
    (omega (arith, c.loop-index-test.true, c.loop-index.invariant.going.within)) in
    subst (λ n. n < cell_count c.args.world.now.size) (sym at)
    (going_inside c.args.world.now (slice_index c.args.levels.now)
    (slice_index c.loop-index.levels) c.args.queue.now.items c.loop-index.queue.items c.args.begin c.len-end.result
    c.loop-index.index c.loop-index.invariant.going c.loop-index-test.true)

pub loop-index-preserved : goal.loop-index-preserved
loop-index-preserved c =
    let at : c.index-from.result.now ≡ slice_index c.loop-index.queue.items c.loop-index.index =
    c.index-from.ensures ∙ get_or_default_zero c.loop-index.queue.items c.loop-index.index c.index-from.result.now
    (omega (arith, c.loop-index-test.true, c.loop-index.invariant.going.within)) in
    record {
      cells = c.pass_on.auto.levels ∙ c.loop-index.invariant.cells;
      going = going_next c.args.world.now (slice_index c.args.levels.now) (slice_index c.loop-index.levels)
          (slice_index c.pass_on.new.levels) c.args.queue.now.items c.loop-index.queue.items c.pass_on.new.queue.items
          c.args.begin c.len-end.result c.loop-index.index c.index-from.result.now c.loop-index.invariant.going
          c.loop-index-test.true (sym at) c.in_ok-pass_on.ensures.grows c.in_ok-pass_on.ensures.passed;
    }

pub returns-clause-relaxes : goal.returns-clause-relaxes
returns-clause-relaxes c =
    let most : c.loop-index.index ≤ c.len-end.result =
    omega (arith, c.loop-index.auto.index-end, c.requires.begun.queued.within, c.len-end.ensures) in
    going_end c.args.world.now (slice_index c.args.levels.now)
    (slice_index c.loop-index.levels) c.args.queue.now.items c.loop-index.queue.items c.args.begin c.len-end.result
    c.loop-index.index c.loop-index.invariant.going c.loop-index-test.false (omega arith)
