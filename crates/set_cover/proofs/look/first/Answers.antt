use Rattle.std.proofs.Common.{◌/◌, length, slice_index, arith, inl, inr}
use Rattle.std.specs.Int.{w64}
use Rattle.std.proofs.lemmas.Bool.{cases_lt}
use Rattle.std.proofs.lemmas.Nat.Bits.{bit_at-trailing_zeros}
use Rattle.set_cover.proofs.BitLemmas.{has_at, not_in_zero, not_past}
use Rattle.std.proofs.Common.{refl}
use Rattle.set_cover.proofs.look.first.Goals as goal

pub returns-then-word-ne0 : goal.returns-then-word-ne0
returns-then-word-ne0 c =
    let word = slice_index c.args.words.now c.loop-index.index in
    let lowest = bit_at-trailing_zeros w64 word (omega (arith, c.if-word-ne0.true))
    (c.type_inv.words c.loop-index.index).fits in
    has_at c.args.words.now c.loop-index.index _ _ lowest.0 refl lowest.1

pub returns : goal.returns
returns c = λ bit h. elim (cases_lt (bit / 64) (length c.args.words.now)) [
  | inl lt ↦ not_in_zero c.args.words.now bit (c.loop-index.invariant (bit / 64) (omega arith)) h
  | inr past ↦ not_past c.args.words.now bit past h
]
