-- The next bit of a row.
use Rattle.std.proofs.Common.{◌≡◌, ℕ, ◌+◌, ◌-◌, ◌*◌, ◌/◌, ◌%◌, ◌^◌, ◌<◌, ◌≤◌, List, length, slice_index, Option, Some}
use Rattle.std.proofs.Common.{None, MatchOption, sym, ap, subst, ◌∙◌, arith, inl, inr}
use Rattle.std.specs.Int.{bit_at, trailing_zeros, w64}
use Rattle.std.proofs.lemmas.Bool.{cases_lt}
use Rattle.std.proofs.lemmas.Nat.{shr-shr, shr_le}
use Rattle.std.proofs.lemmas.Nat.Bits.{bit_at-zero, bit_at-trailing_zeros, bit_at_above}
use Rattle.set_cover.specs.Bits.{Has, HasNoneFrom, IsNext}
use Rattle.set_cover.proofs.BitLemmas.{one_if, has_if, not_past}

-- a bit of a word that was shifted
shifted : (word k i : ℕ) → bit_at (word / 2 ^ k) i ≡ bit_at word (k + i)
shifted word k i = ap (λ (n : ℕ). n % 2) (shr-shr word k i)

-- the bits of the word of `from` that are left after a shift
record IsRest (words : List ℕ) (from rest : ℕ) : Type 0 where
  pub bits : (i : ℕ) → bit_at rest i ≡ bit_at (slice_index words (from / 64)) (from % 64 + i)
  pub fits : rest < 2 ^ 64

-- a shifted word has the bits from there on
rest_of : (words : List ℕ) (from : ℕ) → slice_index words (from / 64) < 2 ^ 64
    → IsRest words from (slice_index words (from / 64) / 2 ^ (from % 64))
rest_of words from small = record {
  bits = λ i. shifted (slice_index words (from / 64)) (from % 64) i;
  fits = omega (arith, shr_le (slice_index words (from / 64)) (from % 64));
}

-- a later bit of the same word
in_rest : (words : List ℕ) (from bit rest : ℕ) → IsRest words from rest → from ≤ bit → bit / 64 ≡ from / 64
    → Has words bit → bit_at rest (bit - from) ≡ 1
in_rest words from bit rest is le same h =
    let at : bit % 64 ≡ from % 64 + (bit - from) = omega arith in
    is.bits (bit - from) ∙ subst (λ (i : ℕ). bit_at (slice_index words (from / 64)) i ≡ 1) at
    (subst (λ (k : ℕ). bit_at (slice_index words k) (bit % 64) ≡ 1) same (one_if words bit h))

-- the lowest bit of the shifted word is the next
pub next_here : (words : List ℕ) (from : ℕ) → slice_index words (from / 64) < 2 ^ 64
    → 0 < slice_index words (from / 64) / 2 ^ (from % 64)
    → IsNext words from (from + trailing_zeros w64 (slice_index words (from / 64) / 2 ^ (from % 64)))
next_here words from small pos = record {
  later = omega arith;
  there = has_if words bit (subst (λ (k : ℕ). bit_at (slice_index words k) (bit % 64) ≡ 1) (sym word)
      (subst (λ (i : ℕ). bit_at (slice_index words (from / 64)) i ≡ 1) (sym place)
      (sym (is.bits zeros) ∙ lowest.1)));
  least = λ other le h. (elim (cases_lt other bit) [
    | inl lt ↦ (let same : other / 64 ≡ from / 64 = omega (arith, within) in
        let one = in_rest words from other rest is le same h in
        let none = lowest.2 (other - from) (omega arith) in absurd (omega arith))
    | inr ge ↦ ge
  ]);
}
  where
    rest : ℕ
    rest = slice_index words (from / 64) / 2 ^ (from % 64)

    zeros : ℕ
    zeros = trailing_zeros w64 rest

    bit : ℕ
    bit = from + zeros

    is : IsRest words from rest
    is = rest_of words from small

    lowest : (zeros < 64) × (bit_at rest zeros ≡ 1) × ((i : ℕ) → i < zeros → bit_at rest i ≡ 0)
    lowest = bit_at-trailing_zeros w64 rest pos is.fits

    -- the bit is one of the same word
    within : from % 64 + zeros < 64
    within = elim (cases_lt (from % 64 + zeros) 64) [
      | inl lt ↦ lt
      | inr past ↦ (let none = bit_at_above (slice_index words (from / 64)) 64 (from % 64 + zeros) small past in
          absurd (omega (arith, is.bits zeros, lowest.1)))
    ]

    word : bit / 64 ≡ from / 64
    word = omega (arith, within)

    place : bit % 64 ≡ from % 64 + zeros
    place = omega (arith, within)

-- where the rest of the word is 0, the next bit is after the word
none_here : (words : List ℕ) (from bit : ℕ) → slice_index words (from / 64) < 2 ^ 64
    → slice_index words (from / 64) / 2 ^ (from % 64) ≡ 0 → from ≤ bit → Has words bit → 64 * (from / 64 + 1) ≤ bit
none_here words from bit small zero le h = elim (cases_lt (from / 64) (bit / 64)) [
  | inl lt ↦ omega arith
  | inr same ↦ (let one = in_rest words from bit (slice_index words (from / 64) / 2 ^ (from % 64))
      (rest_of words from small) le (omega arith) h in
      let none : bit_at (slice_index words (from / 64) / 2 ^ (from % 64)) (bit - from) ≡ 0 =
      ap (λ (n : ℕ). bit_at n (bit - from)) zero ∙ bit_at-zero (bit - from) in absurd (omega arith))
]

-- where the shifted word is zero, the next bit is that from the next word on
next_after : (words : List ℕ) (from bit : ℕ) → slice_index words (from / 64) < 2 ^ 64
    → slice_index words (from / 64) / 2 ^ (from % 64) ≡ 0 → IsNext words (64 * (from / 64 + 1)) bit
    → IsNext words from bit
next_after words from bit small zero next = record {
  later = omega (arith, next.later);
  there = next.there;
  least = λ other le h. next.least other (none_here words from other small zero le h) h;
}

-- where it is zero and no bit follows, there is none
none_after : (words : List ℕ) (from : ℕ) → slice_index words (from / 64) < 2 ^ 64
    → slice_index words (from / 64) / 2 ^ (from % 64) ≡ 0 → HasNoneFrom words (64 * (from / 64 + 1))
    → HasNoneFrom words from
none_after words from small zero none bit le h = none bit (none_here words from bit small zero le h) h

-- what is found after the word is what comes next
pub found_after : (words : List ℕ) (from : ℕ) (found : Option ℕ) → slice_index words (from / 64) < 2 ^ 64
    → slice_index words (from / 64) / 2 ^ (from % 64) ≡ 0
    → MatchOption found (HasNoneFrom words (64 * (from / 64 + 1))) (IsNext words (64 * (from / 64 + 1)))
    → MatchOption found (HasNoneFrom words from) (IsNext words from)
found_after words from None small zero none = none_after words from small zero none
found_after words from (Some bit) small zero next = next_after words from bit small zero next

-- ---- word by word

-- the words after one, up to another, are 0
pub record AreZero (words : List ℕ) (word index : ℕ) : Type 0 where
  pub each : (k : ℕ) → word < k → k < index → slice_index words k ≡ 0

-- a word of zero has no bit
zero_not : (words : List ℕ) (bit : ℕ) → slice_index words (bit / 64) ≡ 0 → ¬ Has words bit
zero_not words bit zero h =
    let none : bit_at (slice_index words (bit / 64)) (bit % 64) ≡ 0 = ap (λ (n : ℕ). bit_at n (bit % 64)) zero
    ∙ bit_at-zero (bit % 64) in
    absurd (omega (arith, one_if words bit h))

-- the lowest bit of the first word that isn't zero is the next
pub first_here : (words : List ℕ) (word index : ℕ) → word < index → 0 < slice_index words index
    → slice_index words index < 2 ^ 64 → AreZero words word index
    → IsNext words (64 * (word + 1)) (64 * index + trailing_zeros w64 (slice_index words index))
first_here words word index lt pos fits zero = record {
  later = omega arith;
  there = has_if words bit (subst (λ (k : ℕ). bit_at (slice_index words k) (bit % 64) ≡ 1) (sym at_word)
      (subst (λ (i : ℕ). bit_at (slice_index words index) i ≡ 1) (sym place) lowest.1));
  least = λ other le h. (elim (cases_lt other bit) [
    | inl before ↦ (elim (cases_lt (other / 64) index) [
      | inl early ↦ absurd (zero_not words other (zero.each (other / 64) (omega arith) early) h)
      | inr late ↦ (let same : other / 64 ≡ index = omega (arith, lowest.0) in
          let one : bit_at (slice_index words index) (other % 64) ≡ 1 =
          subst (λ (k : ℕ). bit_at (slice_index words k) (other % 64) ≡ 1) same (one_if words other h) in
          let none = lowest.2 (other % 64) (omega arith) in absurd (omega arith))
    ])
    | inr ge ↦ ge
  ]);
}
  where
    zeros : ℕ
    zeros = trailing_zeros w64 (slice_index words index)

    bit : ℕ
    bit = 64 * index + zeros

    lowest : (zeros < 64) × (bit_at (slice_index words index) zeros ≡ 1) × ((i : ℕ) → i < zeros
        → bit_at (slice_index words index) i ≡ 0)
    lowest = bit_at-trailing_zeros w64 (slice_index words index) pos fits

    at_word : bit / 64 ≡ index
    at_word = omega (arith, lowest.0)

    place : bit % 64 ≡ zeros
    place = omega (arith, lowest.0)

-- where all later words are zero, there is none
pub none_left : (words : List ℕ) (word index : ℕ) → length words ≤ index → AreZero words word index
    → HasNoneFrom words (64 * (word + 1))
none_left words word index all zero bit le h = elim (cases_lt (bit / 64) (length words)) [
  | inl lt ↦ zero_not words bit (zero.each (bit / 64) (omega arith) (omega arith)) h
  | inr past ↦ not_past words bit past h
]

-- before the first later word none is known to be zero
pub zero_none : (words : List ℕ) (word : ℕ) → AreZero words word (word + 1)
zero_none words word = record { each = λ k after before. absurd (omega arith) }

-- one word more is zero
pub zero_more : (words : List ℕ) (word index : ℕ) → slice_index words index ≡ 0 → AreZero words word index
    → AreZero words word (index + 1)
zero_more words word index zero s = record {
  each = λ k after before. (elim (cases_lt k index) [
    | inl lt ↦ s.each k after lt
    | inr le ↦ (let same : index ≡ k = omega arith in subst (λ (j : ℕ). slice_index words j ≡ 0) same zero)
  ]);
}

-- past the end no bit is
pub none_past : (words : List ℕ) (from : ℕ) → length words ≤ from / 64 → HasNoneFrom words from
none_past words from past bit le h = not_past words bit (omega arith) h
