use Rattle.std.proofs.Common.{ℕ, List, length, refl, ap, ◌∙◌, arith}
use Rattle.std.proofs.lemmas.Bool.{false≢true}
use Rattle.std.proofs.lemmas.List.{get_or_default, same_lists}
use Rattle.set_cover.proofs.SpanLemmas.{whole_long}
use Rattle.set_cover.proofs.bit_row.BitRow.is_same.Goals as goal

pub returns-then-self-other : goal.returns-then-self-other
returns-then-self-other c =
    let one = whole_long c.self.inside.width c.self.inside.before c.self.inside.words.items c.self.invariant in
    let two = whole_long c.other.inside.width c.other.inside.before c.other.inside.words.items c.other.invariant in (
      λ t. absurd (false≢true t),
      λ e. absurd (c.if-self-other.true (omega (
        arith,
        one,
        two,
        ap (λ (l : List ℕ). length l) c.self.view_is,
        ap (λ (l : List ℕ). length l) c.other.view_is,
        ap (λ (l : List ℕ). length l) e,
      ))),
    )

pub returns : goal.returns
returns c =
    let one = whole_long c.self.inside.width c.self.inside.before c.self.inside.words.items c.self.invariant in
    let two = whole_long c.other.inside.width c.other.inside.before c.other.inside.words.items c.other.invariant in
    let long = ap (λ (l : List ℕ). length l) c.self.view_is in
    let other = ap (λ (l : List ℕ). length l) c.other.view_is in (
      λ t. same_lists c.args.self.now c.args.other.now (omega (arith, one, two, long, other, c.if-self-other.false))
          (λ k d lt. get_or_default c.args.self.now k d 0 lt
          ∙ c.loop-index.invariant k (omega (arith, lt, long, one, c.loop-index-test.false))
          ∙ get_or_default c.args.other.now k 0 d (omega (arith, lt, one, two, long, other, c.if-self-other.false))),
      λ e. refl,
    )
