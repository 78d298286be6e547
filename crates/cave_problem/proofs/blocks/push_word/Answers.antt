use Rattle.std.proofs.Common.{arith}
use Rattle.cave_problem.proofs.StoreLemmas.{pushing_next, pushing_all, word_bit}
use Rattle.cave_problem.proofs.blocks.push_word.Goals as goal

pub overflow_add-block : goal.overflow_add-block
overflow_add-block c = omega (arith, (word_bit c.args.word c.in-Some.bit c.in-Some.ensures.there).0, c.requires.small)

pub overflow_cast-block : goal.overflow_cast-block
overflow_cast-block c = omega (arith, (word_bit c.args.word c.in-Some.bit c.in-Some.ensures.there).0, c.requires.small)

pub overflow_add-from : goal.overflow_add-from
overflow_add-from c = omega (arith, (word_bit c.args.word c.in-Some.bit c.in-Some.ensures.there).0)

pub loop-bit-smaller : goal.loop-bit-smaller
loop-bit-smaller c = omega (
  arith,
  (word_bit c.args.word c.in-Some.bit c.in-Some.ensures.there).0,
  c.in-Some.ensures.later,
)

pub loop-bit-preserved : goal.loop-bit-preserved
loop-bit-preserved c = pushing_next c.args.place c.args.block c.args.word c.loop-bit.from c.in-Some.bit
    c.args.lit.now c.loop-bit.lit c.push.new.self c.in-Some.ensures c.in_ok-push.ensures c.loop-bit.invariant

pub returns : goal.returns
returns c = pushing_all c.args.place c.args.block c.args.word c.loop-bit.from c.args.lit.now c.loop-bit.lit
    c.in_default.ensures c.loop-bit.invariant
