-- Rows that are kept in part.
use Rattle.std.proofs.Common.{◌≡◌, ℕ, ◌+◌, ◌-◌, ◌*◌, ◌/◌, ◌%◌, ◌<◌, ◌≤◌, ◌⊎◌, List, [], ◌++◌, length, slice_index}
use Rattle.std.proofs.Common.{replicate, refl, sym, ap, subst, ◌∙◌, arith, inl, inr}
use Rattle.std.specs.Prelude.{◌↔◌}
use Rattle.std.specs.Int.{bit_at}
use Rattle.std.proofs.lemmas.Bool.{cases_lt}
use Rattle.std.proofs.lemmas.List.{length-append, length-replicate, get_or-replicate, get_or_append_left}
use Rattle.std.proofs.lemmas.List.{get_or-append_right, get_or_past}
use Rattle.set_cover.specs.Bits.{Has, HasNoneFrom, IsNext, IsRowOf, IsWith}
use Rattle.set_cover.specs.Rows.{whole_row, IsSpan, AreWordsFrom}
use Rattle.set_cover.proofs.ListLemmas.{none_in}
use Rattle.set_cover.proofs.BitLemmas.{one_if, has_if, has_inside, not_in_zero}

-- a bit of one list is a bit of another that has its word
pub has_same : (xs ys : List ℕ) (bit other : ℕ) → slice_index xs (bit / 64) ≡ slice_index ys (other / 64)
    → bit % 64 ≡ other % 64 → Has xs bit → Has ys other
has_same xs ys bit other word place h = has_if ys other
    (subst (λ (i : ℕ). bit_at (slice_index ys (other / 64)) i ≡ 1) place
    (subst (λ (w : ℕ). bit_at w (bit % 64) ≡ 1) word (one_if xs bit h)))

-- the bit lies before or behind so many words from an index on
abbrev pub IsOutside : ℕ → ℕ → ℕ → Type 0
IsOutside before count bit = (bit / 64 < before) ⊎ (before + count ≤ bit / 64)

-- a bit lies outside, or at a place of these words
pub place_of : (before count bit : ℕ)
    → IsOutside before count bit ⊎ ((i : ℕ) × (bit ≡ 64 * before + i) × (i < 64 * count))
place_of before count bit = elim (cases_lt (bit / 64) before) [
  | inl lt ↦ inl (inl lt)
  | inr le ↦ elim (cases_lt (bit / 64) (before + count)) [
    | inl lt ↦ inr (bit - 64 * before, omega arith, omega arith)
    | inr past ↦ inl (inr past)
  ]
]

-- ---- the words of the whole row

zeros_at : (n k : ℕ) → slice_index (replicate n 0) k ≡ 0
zeros_at n k = elim (cases_lt k n) [
  | inl lt ↦ get_or-replicate n k 0 0 lt
  | inr past ↦ get_or_past (replicate n 0) k 0 (omega (arith, length-replicate {A = ℕ} n 0))
]

-- it has as many words as it should
pub whole_long : (width before : ℕ) (words : List ℕ) → before + length words ≤ width
    → length (whole_row width before words) ≡ width
whole_long width before words fits =
    let rest : List ℕ = replicate (width - (before + length words)) 0 in
    omega (
      arith,
      fits,
      length-append {A = ℕ} (replicate before 0) (words ++ rest),
      length-append words rest,
      length-replicate {A = ℕ} before 0,
      length-replicate {A = ℕ} (width - (before + length words)) 0,
    )

-- it has the words that are kept, and no bits elsewhere
pub span_of : (width before : ℕ) (words : List ℕ) → before + length words ≤ width
    → IsSpan (whole_row width before words) before words
span_of width before words fits = record {
  inside = omega (arith, fits, whole_long width before words fits);
  each = λ k lt. behind (before + k) (omega arith) ∙ ap (slice_index (words ++ rest)) (shift k)
      ∙ get_or_append_left words rest 0 k lt;
  none_before = λ k lt.
      get_or_append_left front (words ++ rest) 0 k (omega (arith, length-replicate {A = ℕ} before 0, lt))
      ∙ zeros_at before k;
  none_after = λ k le. behind k (omega arith)
      ∙ get_or-append_right words rest (length words) (k - before) 0 refl (omega arith)
      ∙ zeros_at (width - (before + length words)) (k - before - length words);
}
  where
    front : List ℕ
    front = replicate before 0

    rest : List ℕ
    rest = replicate (width - (before + length words)) 0

    shift : (k : ℕ) → before + k - before ≡ k
    shift k = omega arith

    behind : (k : ℕ) → before ≤ k → slice_index (whole_row width before words) k
        ≡ slice_index (words ++ rest) (k - before)
    behind k le = get_or-append_right front (words ++ rest) before k 0 (length-replicate {A = ℕ} before 0) le

-- ---- its bits

module _ (row : List ℕ) (before : ℕ) (words : List ℕ) (s : IsSpan row before words) where
  word_in : (i : ℕ) → i < 64 * length words → slice_index row ((64 * before + i) / 64) ≡ slice_index words (i / 64)
  word_in i lt = (let at : (64 * before + i) / 64 ≡ before + i / 64 = omega arith in
      ap (slice_index row) at ∙ s.each (i / 64) (omega arith))

  -- a bit of the words that are kept is one of the row
  pub span_to : (i : ℕ) → Has words i → Has row (64 * before + i)
  span_to i h = has_same words row i (64 * before + i) (sym (word_in i (has_inside words i h))) (omega arith) h

  -- a bit of the row at these words is one of them
  pub span_in : (i : ℕ) → i < 64 * length words → Has row (64 * before + i) → Has words i
  span_in i lt h = has_same row words (64 * before + i) i (word_in i lt) (omega arith) h

  -- outside there is none
  pub span_out : (bit : ℕ) → IsOutside before (length words) bit → ¬ Has row bit
  span_out bit out h = elim out [
    | inl lt ↦ not_in_zero row bit (s.none_before (bit / 64) lt) h
    | inr past ↦ not_in_zero row bit (s.none_after (bit / 64) past) h
  ]

  -- each bit of the row is one of the words that are kept
  pub span_from : (bit : ℕ) → Has row bit → (i : ℕ) × (bit ≡ 64 * before + i) × Has words i
  span_from bit h = elim (place_of before (length words) bit) [
    | inl out ↦ absurd (span_out bit out h)
    | inr place ↦ (place.0, place.1, span_in place.0 place.2 (subst (Has row) place.1 h))
  ]

  -- so it is for a bit from there on
  pub span_bit : (bit : ℕ) → 64 * before ≤ bit → Has row bit ↔ Has words (bit - 64 * before)
  span_bit bit le = (
    λ h. (let from = span_from bit h in let same : from.0 ≡ bit - 64 * before = omega (arith, from.1) in
        subst (Has words) same from.2),
    λ h. (let same : 64 * before + (bit - 64 * before) ≡ bit = omega arith in
        subst (Has row) same (span_to (bit - 64 * before) h)),
  )

  -- no bits are kept where the row has none
  pub span_none : IsRowOf [] words → IsRowOf [] row
  span_none none = record {
    exact = λ bit. (
      λ h. (let from = span_from bit h in none_in from.0 ((none.exact from.0).0 from.2)),
      λ c. none_in bit c,
    );
  }

  -- the next bit of the row is that of the words that are kept
  pub span_next : (from bit : ℕ) → IsNext words (from - 64 * before) bit → IsNext row from (64 * before + bit)
  span_next from bit next = record {
    later = omega (arith, next.later);
    there = span_to bit next.there;
    least = λ other le h. (let at = span_from other h in
        let least = next.least at.0 (omega (arith, at.1, le)) at.2 in omega (arith, at.1, least));
  }

  -- no bit follows where none of them does
  pub span_end : (from : ℕ) → HasNoneFrom words (from - 64 * before) → HasNoneFrom row from
  span_end from none bit le h = (let at = span_from bit h in none at.0 (omega (arith, at.1, le)) at.2)

  -- a bit more among the words that are kept is one more of the row
  pub span_with : (width bit : ℕ) (new : List ℕ) → length row ≡ width → 64 * before ≤ bit
      → IsWith words (bit - 64 * before) new → IsWith row bit (whole_row width before new)
  span_with width bit new long le more = record {
    whole = whole_long width before new fits ∙ sym long;
    exact = λ other. (
      λ h. (let from = out other h in elim ((more.exact from.0).0 from.2) [
        | inl was ↦ inl (subst (Has row) (sym from.1) (span_to from.0 was))
        | inr same ↦ inr (omega (arith, from.1, same))
      ]),
      λ h. elim h [
        | inl was ↦ (let from = span_from other was in
            subst (Has (whole_row width before new)) (sym from.1) (into from.0 ((more.exact from.0).1 (inl from.2))))
        | inr same ↦ (let at : 64 * before + (bit - 64 * before) ≡ other = omega (arith, same) in
            subst (Has (whole_row width before new)) at
            (into (bit - 64 * before) ((more.exact (bit - 64 * before)).1 (inr refl))))
      ],
    );
  }
    where
      fits : before + length new ≤ width
      fits = omega (arith, s.inside, long, more.whole)

      out : (other : ℕ) → Has (whole_row width before new) other
          → (i : ℕ) × (other ≡ 64 * before + i) × Has new i
      out other h = elim (place_of before (length new) other) [
        | inl past ↦ elim past [
          | inl lt ↦ absurd (not_in_zero (whole_row width before new) other
              ((span_of width before new fits).none_before (other / 64) lt) h)
          | inr le ↦ absurd (not_in_zero (whole_row width before new) other
              ((span_of width before new fits).none_after (other / 64) le) h)
        ]
        | inr place ↦ (
          place.0,
          place.1,
          (let at : (64 * before + place.0) / 64 ≡ before + place.0 / 64 = omega arith in
              has_same (whole_row width before new) new (64 * before + place.0) place.0
              (ap (slice_index (whole_row width before new)) at
              ∙ (span_of width before new fits).each (place.0 / 64) (omega (arith, place.2)))
              (omega arith) (subst (Has (whole_row width before new)) place.1 h)),
        )
      ]

      into : (i : ℕ) → Has new i → Has (whole_row width before new) (64 * before + i)
      into i h = (let at : (64 * before + i) / 64 ≡ before + i / 64 = omega arith in
          has_same new (whole_row width before new) i (64 * before + i)
          (sym (ap (slice_index (whole_row width before new)) at
          ∙ (span_of width before new fits).each (i / 64) (omega (arith, has_inside new i h))))
          (omega arith) h)

-- ---- more of its words

-- words on both sides of those that are kept are 0
pub span_wider : (row : List ℕ) (before : ℕ) (words : List ℕ) (first count : ℕ) (wider : List ℕ)
    → IsSpan row before words → AreWordsFrom row first count wider → first ≤ before
    → before + length words ≤ first + count → first + count ≤ length row → IsSpan row first wider
span_wider row before words first count wider s are low high fits = record {
  inside = omega (arith, are.whole, fits);
  each = λ k lt. sym (are.each k (omega (arith, are.whole, lt)));
  none_before = λ k lt. s.none_before k (omega arith);
  none_after = λ k le. s.none_after k (omega (arith, are.whole, le));
}
