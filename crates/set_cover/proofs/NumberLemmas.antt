-- Cells get their indices, one after another.
use Rattle.std.proofs.Common.{◌≡◌, ◌≢◌, ℕ, ◌+◌, ◌<◌, List, length, set, slice_index, Contains, sym, subst}
use Rattle.std.proofs.Common.{◌∙◌, ◌⊎◌, arith, inl, inr, length-set, get_or-set_same, get_or-set_other}
use Rattle.std.specs.List.Sorted.{IsStrictlyIncreasing}
use Rattle.std.proofs.lemmas.Bool.{cases_lt, cases_eq}
use Rattle.set_cover.proofs.OrderLemmas.{rises, element_of}

-- the first `count` cells have got their indices
pub record Numbering (old cells : List ℕ) (count : ℕ) (new : List ℕ) : Type 0 where
  pub whole : length new ≡ length old
  pub listed : (index : ℕ) → index < count → slice_index new (slice_index cells index) ≡ index
  pub others : (cell : ℕ) → (slice_index new cell ≡ slice_index old cell) ⊎ Contains cells cell

-- the next cell gets its index
pub numbering_next : (old cells new : List ℕ) (count : ℕ) → IsStrictlyIncreasing cells → count < length cells
    → slice_index cells count < length old
    → Numbering old cells count new → Numbering old cells (count + 1) (set new (slice_index cells count) count)
numbering_next old cells new count up h inside s = record {
  whole = length-set new (slice_index cells count) count ∙ s.whole;
  listed = λ index lt. (elim (cases_lt index count) [
    | inl before ↦ (let apart : slice_index cells index ≢ slice_index cells count = λ e.
        (let r = rises cells up index count before h in absurd (omega arith)) in
        get_or-set_other new (slice_index cells count) (slice_index cells index) count 0 apart ∙ s.listed index before)
    | inr le ↦ (let same : count ≡ index = omega arith in
        subst (λ (i : ℕ). slice_index (set new (slice_index cells count) count) (slice_index cells i) ≡ i) same
        (get_or-set_same new (slice_index cells count) count 0 (omega (arith, s.whole))))
  ]);
  others = λ cell. (elim (cases_eq cell (slice_index cells count)) [
    | inl e ↦ inr (element_of cells cell count h (sym e))
    | inr ne ↦ (let same = get_or-set_other new (slice_index cells count) cell count 0 ne in elim (s.others cell) [
      | inl was ↦ inl (same ∙ was)
      | inr has ↦ inr has
    ])
  ]);
}
