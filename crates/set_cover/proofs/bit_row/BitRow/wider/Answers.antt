use Rattle.std.proofs.Common.{◌≡◌, ◌-◌, ◌*◌, ℕ, List, length, sym, ap, subst, ◌∙◌, arith, take_at}
use Rattle.set_cover.specs.Bits.{IsWith}
use Rattle.set_cover.specs.Rows.{whole_row, IsSpan}
use Rattle.set_cover.proofs.SpanLemmas.{whole_long, span_of, span_wider, span_with}
use Rattle.set_cover.proofs.bit_row.BitRow.wider.Goals as goal

pub returns : goal.returns
returns c =
    let r = c.self.inside in let before = c.min-before.result in let words = c.in_ok-words.words.items in
    let width : length c.args.self.now ≡ r.width = ap (λ (l : List ℕ). length l) (sym c.self.view_is)
    ∙ whole_long r.width r.before r.words.items c.self.invariant in
    let long : length c.add.new.words ≡ c.in_ok-words.words.len =
    omega (arith, c.add.auto.words, c.as_mut_slice.ensures.len) in
    let span : IsSpan c.args.self.now r.before r.words.items =
    subst (λ (row : List ℕ). IsSpan row r.before r.words.items) c.self.view_is
    (span_of r.width r.before r.words.items c.self.invariant) in
    let wider = span_wider c.args.self.now r.before r.words.items before (c.max-end.result - before) words span
    c.in_ok-words.ensures (omega (arith, c.min-before.ensures))
    (omega (arith, c.min-before.ensures, c.max-end.ensures, c.len.ensures, c.self.invariant))
    (omega (arith, c.min-before.ensures, c.max-end.ensures, c.len.ensures, c.self.invariant, width, c.requires)) in
    subst (λ (l : List ℕ). IsWith c.args.self.now c.args.bit (whole_row r.width before l))
    (sym (take_at c.add.new.words _ c.in_ok-words.words.len long))
    (span_with c.args.self.now before words wider r.width c.args.bit c.add.new.words width
    (omega (arith, c.min-before.ensures))
    (subst (λ (l : List ℕ). IsWith l (c.args.bit - 64 * before) c.add.new.words) c.as_mut_slice.ensures.value
    c.add.ensures))
