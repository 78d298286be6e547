use Rattle.std.proofs.Common.{◌/◌, arith}
use Rattle.set_cover.proofs.WalkLemmas.{none_past, next_here, found_after}
use Rattle.set_cover.proofs.walk.next.Goals as goal

pub returns-then-index-words : goal.returns-then-index-words
returns-then-index-words c = none_past c.args.words.now c.args.from (omega (arith, c.if-index-words.true))

pub returns-then-rest-ne0 : goal.returns-then-rest-ne0
returns-then-rest-ne0 c = next_here c.args.words.now c.args.from (c.type_inv.words (c.args.from / 64)).fits
    (omega (arith, c.if-rest-ne0.true))

pub returns : goal.returns
returns c = found_after c.args.words.now c.args.from c.first_after.result (c.type_inv.words (c.args.from / 64)).fits
    (omega (arith, c.if-rest-ne0.false)) c.first_after.ensures
