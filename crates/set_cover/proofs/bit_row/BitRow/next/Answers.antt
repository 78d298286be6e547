use Rattle.std.proofs.Common.{ℕ, List, ◌+◌, ◌*◌, length, ap, subst, arith}
use Rattle.set_cover.specs.Bits.{HasNoneFrom, IsNext}
use Rattle.set_cover.specs.Rows.{whole_row}
use Rattle.set_cover.proofs.BitLemmas.{has_inside}
use Rattle.set_cover.proofs.SpanLemmas.{whole_long, span_of, span_next, span_end}
use Rattle.set_cover.proofs.bit_row.BitRow.next.Goals as goal

pub overflow_add-result : goal.overflow_add-result
overflow_add-result c =
    let inside = has_inside c.deref.result.now c.in-Some.bit c.in-Some.ensures.there in
    let long = whole_long c.self.inside.width c.self.inside.before c.self.inside.words.items c.self.invariant in
    omega (
      arith,
      inside,
      ap (λ (l : List ℕ). length l) c.deref.ensures.value,
      c.self.invariant,
      long,
      ap (λ (l : List ℕ). length l) c.self.view_is,
      c.requires,
    )

pub returns-in-Some : goal.returns-in-Some
returns-in-Some c =
    let r = c.self.inside in
    subst (λ (row : List ℕ). IsNext row c.args.from (64 * r.before + c.in-Some.bit)) c.self.view_is
    (span_next (whole_row r.width r.before r.words.items) r.before r.words.items
    (span_of r.width r.before r.words.items c.self.invariant) c.args.from c.in-Some.bit
    (subst (λ (n : ℕ). IsNext r.words.items n c.in-Some.bit) c.saturating_sub.ensures
    (subst (λ (l : List ℕ). IsNext l c.saturating_sub.result c.in-Some.bit) c.deref.ensures.value c.in-Some.ensures)))

pub returns-in-None : goal.returns-in-None
returns-in-None c =
    let r = c.self.inside in
    subst (λ (row : List ℕ). HasNoneFrom row c.args.from) c.self.view_is
    (span_end (whole_row r.width r.before r.words.items) r.before r.words.items
    (span_of r.width r.before r.words.items c.self.invariant) c.args.from
    (subst (λ (n : ℕ). HasNoneFrom r.words.items n) c.saturating_sub.ensures
    (subst (λ (l : List ℕ). HasNoneFrom l c.saturating_sub.result) c.deref.ensures.value c.in-None.ensures)))
