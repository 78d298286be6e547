use Rattle.std.proofs.Common.{◌≡◌, ◌<◌, ◌^◌, ◌+◌, ℕ, slice_index, refl, sym, ap, subst, ◌∙◌, arith}
use Rattle.std.specs.Int.{bit_not, w64}
use Rattle.std.proofs.lemmas.Bool.{false≢true}
use lib.Bits.{bit_and}
use Rattle.set_cover.proofs.WordLemmas.{WithinSoFar, within_more, outside_here}
use Rattle.set_cover.proofs.PartLemmas.{within_begin, within_end}
use Rattle.set_cover.proofs.by_row.is_within.Goals.{After-word}
use Rattle.set_cover.proofs.by_row.is_within.Goals as goal

-- what the row and the part have in a word and the other hasn't, from the words that are kept
words : (c : After-word) → bit_and (bit_and (slice_index c.args.row.now (c.kept-before.result.0 + c.loop-index.index))
    (slice_index c.args.part.now (c.kept-before.result.0 + c.loop-index.index)))
    (bit_not w64 (slice_index c.args.other.now (c.kept-before.result.0 + c.loop-index.index)))
    ≡ bit_and (bit_and (slice_index c.kept-before.result.1.now c.loop-index.index)
    (slice_index c.args.part.now (c.kept-before.result.0 + c.loop-index.index))) (bit_not w64 c.word.result)
words c =
    let k = c.kept-before.result.0 + c.loop-index.index in
    ap (λ (w : ℕ). bit_and (bit_and w (slice_index c.args.part.now k)) (bit_not w64 (slice_index c.args.other.now k)))
    (c.kept-before.ensures.each c.loop-index.index c.loop-index-test.true)
    ∙ ap (λ (o : ℕ). bit_and (bit_and (slice_index c.kept-before.result.1.now c.loop-index.index)
    (slice_index c.args.part.now k)) (bit_not w64 o)) (sym c.word.ensures)

small : (c : After-word) → slice_index c.args.other.now (c.kept-before.result.0 + c.loop-index.index) < 2 ^ 64
small c = omega (arith, c.word.type_inv, c.word.ensures)

pub loop-index-init : goal.loop-index-init
loop-index-init c = within_begin c.args.row.now c.kept-before.result.0 c.kept-before.result.1.now
    c.kept-before.ensures c.args.part.now c.args.other.now

pub loop-index-preserved : goal.loop-index-preserved
loop-index-preserved c =
    let before = (goal.at.loop-index-preserved c).After-word in
    let k = c.kept-before.result.0 + c.loop-index.index in
    let next : k + 1 ≡ c.kept-before.result.0 + (c.loop-index.index + 1) = omega arith in
    subst (WithinSoFar c.args.row.now c.args.part.now c.args.other.now) next
    (within_more c.args.row.now c.args.part.now c.args.other.now k (small before)
    (words before ∙ c.if-both-word-ne0.false) c.loop-index.invariant)

pub returns-then-both-word-ne0 : goal.returns-then-both-word-ne0
returns-then-both-word-ne0 c =
    let before = (goal.at.returns-then-both-word-ne0 c).After-word in
    let k = c.kept-before.result.0 + c.loop-index.index in
    let kept = c.kept-before.ensures.each c.loop-index.index c.loop-index-test.true in
    let fits = (before.type_inv.kept c.loop-index.index).fits in (
      λ t. absurd (false≢true t),
      λ w. absurd (outside_here c.args.row.now c.args.part.now c.args.other.now k
          (omega (arith, kept, fits)) (small before)
          (omega (arith, words before, c.if-both-word-ne0.true)) w),
    )

pub returns : goal.returns
returns c = (
  λ t. within_end c.args.row.now c.kept-before.result.0 c.kept-before.result.1.now c.kept-before.ensures
      c.args.part.now c.args.other.now c.loop-index.index c.loop-index-test.false c.loop-index.invariant,
  λ w. refl,
)
