use Rattle.std.proofs.Common.{length, slice_index, refl, arith}
use Rattle.lit_lists.proofs.CountLemmas.{count_low, counts_none, counts_more, counts_all}
use Rattle.lit_lists.proofs.counting.count_all.Goals as goal

pub loop-number-init : goal.loop-number-init
loop-number-init c = counts_none (length c.args.counts.now) c.args.numbers.now c.args.counts.now c.requires.none refl

pub overflow_add-counts : goal.overflow_add-counts
overflow_add-counts c =
    let inside = c.requires.inside c.loop-number.number-index 0 c.loop-number-test.true in
    let low = count_low (length c.args.counts.now) c.args.numbers.now c.loop-number.counts c.loop-number.number-index
    (slice_index c.args.numbers.now c.loop-number.number-index) (omega (arith, c.loop-number-test.true)) inside
    c.loop-number.invariant in
    omega (arith, low, c.loop-number-test.true)

pub loop-number-preserved : goal.loop-number-preserved
loop-number-preserved c = counts_more (length c.args.counts.now) c.args.numbers.now c.loop-number.counts
    c.loop-number.number-index c.loop-number-test.true
    (c.requires.inside c.loop-number.number-index 0 c.loop-number-test.true) c.loop-number.invariant

pub returns : goal.returns
returns c = counts_all (length c.args.counts.now) c.args.numbers.now c.loop-number.counts c.loop-number.number-index
    (omega (arith, c.loop-number-test.false)) c.loop-number.invariant
