use Rattle.std.proofs.Common.{arith}
use Rattle.set_cover.proofs.WalkLemmas.{zero_none, zero_more, first_here, none_left}
use Rattle.set_cover.proofs.walk.first_after.Goals as goal

pub loop-index-init : goal.loop-index-init
loop-index-init c = zero_none c.args.words.now c.args.word

pub loop-index-preserved : goal.loop-index-preserved
loop-index-preserved c = zero_more c.args.words.now c.args.word c.loop-index.index
    (omega (arith, c.if-words-index-ne0.false)) c.loop-index.invariant

pub returns-then-words-index-ne0 : goal.returns-then-words-index-ne0
returns-then-words-index-ne0 c =
    first_here c.args.words.now c.args.word c.loop-index.index (omega arith) (omega (arith, c.if-words-index-ne0.true))
    (c.type_inv.words c.loop-index.index).fits c.loop-index.invariant

pub returns : goal.returns
returns c = none_left c.args.words.now c.args.word c.loop-index.index (omega arith) c.loop-index.invariant
