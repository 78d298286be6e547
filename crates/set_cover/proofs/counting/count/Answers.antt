use Rattle.std.proofs.Common.{slice_index, arith}
use Rattle.std.proofs.lemmas.Nat.{ones-le}
use Rattle.set_cover.specs.Bits.{Has}
use Rattle.set_cover.proofs.CountLemmas.{counting_none, counting_more, counting_all, of_row}
use Rattle.set_cover.proofs.counting.count.Goals as goal

pub loop-word-init : goal.loop-word-init
loop-word-init c = counting_none (slice_index c.args.words.now)

pub overflow_add-total : goal.overflow_add-total
overflow_add-total c =
    let fits = (c.type_inv.words c.loop-word.word-index).fits in
    let few = ones-le 64 (slice_index c.args.words.now c.loop-word.word-index) fits in
    omega (arith, few, c.loop-word.invariant.small, c.requires)

pub loop-word-preserved : goal.loop-word-preserved
loop-word-preserved c =
    let fits = (c.type_inv.words c.loop-word.word-index).fits in
    counting_more (slice_index c.args.words.now) c.loop-word.word-index c.loop-word.total fits c.loop-word.invariant

pub returns : goal.returns
returns c = counting_all (Has c.args.words.now) (slice_index c.args.words.now) c.loop-word.word-index c.loop-word.total
    (of_row c.args.words.now c.loop-word.word-index c.loop-word-test.false) c.loop-word.invariant
