-- Bits of rows.
use Rattle.std.proofs.Common.{◌≡◌, ◌≢◌, ℕ, ◌+◌, ◌-◌, ◌*◌, ◌/◌, ◌%◌, ◌^◌, ◌<◌, ◌≤◌, List, length, slice_index, refl}
use Rattle.std.proofs.Common.{sym, ap, subst, ◌∙◌, arith, inl, inr, ◌⊎◌, min, set, length-set, get_or-set_same}
use Rattle.std.proofs.Common.{get_or-set_other}
use Rattle.std.specs.Int.{bit_at, bit_not, w64}
use lib.Bits.{bit_and, bit_or}
use mir.Val.{bits}
use Rattle.std.proofs.lemmas.Bool.{cases_lt, cases_eq}
use Rattle.std.proofs.lemmas.Bool.Decides.{nat_tests}
use Rattle.std.proofs.lemmas.List.{get_or_past}
use Rattle.std.proofs.lemmas.Nat.Bits.{bit_at-zero, bit_at-lt, bit_at_and, bit_at_not, bit_at_set_same}
use Rattle.std.proofs.lemmas.Nat.Bits.{bit_at_set_other}
use Rattle.std.specs.Prelude.{[], ◌∷◌, ◌++◌, Contains}
use Rattle.std.proofs.lemmas.List.Elements.{Contains-push, Contains-push_cases, Contains-append_left}
use Rattle.set_cover.specs.Bits.{IsRowOf, has_bit, Has, IsWith, IsWithout}

-- ---- a bit of a row, by its word

-- a bit of the row is one in its word
pub one_if : (words : List ℕ) (bit : ℕ) → Has words bit → bit_at (slice_index words (bit / 64)) (bit % 64) ≡ 1
unfolding has_bit
one_if words bit h = grind (arith, nat_tests)

-- a bit that is one in its word is of the row
pub has_if : (words : List ℕ) (bit : ℕ) → bit_at (slice_index words (bit / 64)) (bit % 64) ≡ 1 → Has words bit
unfolding has_bit
has_if words bit h = grind (arith, nat_tests)

-- a bit of a word is of the row, by the word's index
pub has_at : (words : List ℕ) (k i bit : ℕ) → i < 64 → bit ≡ 64 * k + i → bit_at (slice_index words k) i ≡ 1
    → Has words bit
has_at words k i bit lt e h =
    let word : k ≡ bit / 64 = omega arith in
    let place : i ≡ bit % 64 = omega arith in
    has_if words bit (subst (λ (n : ℕ). bit_at (slice_index words (bit / 64)) n ≡ 1) place
    (subst (λ (n : ℕ). bit_at (slice_index words n) i ≡ 1) word h))

-- a bit of the row is one in its word, by the word's index
pub at_has : (words : List ℕ) (k i bit : ℕ) → i < 64 → bit ≡ 64 * k + i → Has words bit
    → bit_at (slice_index words k) i ≡ 1
at_has words k i bit lt e h =
    let word : bit / 64 ≡ k = omega arith in
    let place : bit % 64 ≡ i = omega arith in
    subst (λ (n : ℕ). bit_at (slice_index words k) n ≡ 1) place
    (subst (λ (n : ℕ). bit_at (slice_index words n) (bit % 64) ≡ 1) word (one_if words bit h))

-- a bit of a word is one or zero
zero_or_one : (n i : ℕ) → (bit_at n i ≡ 1) ⊎ (bit_at n i ≡ 0)
zero_or_one n i = (let small = bit_at-lt n i in
    elim (cases_lt (bit_at n i) 1) [ inl lt ↦ inr (omega arith) | inr le ↦ inl (omega arith) ])

-- where the word is 0, its bits aren't there
pub not_in_zero : (words : List ℕ) (bit : ℕ) → slice_index words (bit / 64) ≡ 0 → ¬ Has words bit
not_in_zero words bit zero h =
    let one = one_if words bit h in
    let none : bit_at (slice_index words (bit / 64)) (bit % 64) ≡ 0 = ap (λ (n : ℕ). bit_at n (bit % 64)) zero
    ∙ bit_at-zero (bit % 64) in
    absurd (omega arith)

-- past the last word there is no bit
pub not_past : (words : List ℕ) (bit : ℕ) → length words ≤ bit / 64 → ¬ Has words bit
not_past words bit past = not_in_zero words bit (get_or_past words (bit / 64) 0 past)

-- a row has a bit or not
pub has_or_not : (words : List ℕ) (bit : ℕ) → Has words bit ⊎ (¬ Has words bit)
has_or_not words bit = elim (zero_or_one (slice_index words (bit / 64)) (bit % 64)) [
  | inl one ↦ inl (has_if words bit one)
  | inr none ↦ inr (λ h. (let one = one_if words bit h in absurd (omega arith)))
]

-- ---- one bit more

-- a word or-ed with a bit sets it
pub with_bit : (words : List ℕ) (bit : ℕ) → bit < 64 * length words
    → IsWith words bit (set words (bit / 64)
    (bit_or (slice_index words (bit / 64)) (1 * 2 ^ (bit % 64) % 2 ^ bits w64)))
with_bit words bit inside = record {
  whole = length-set words (bit / 64) _;
  exact = λ other. (elim (cases_eq other bit) [
    | inl e ↦ (
      λ _. inr e,
      λ _. subst (Has new) (sym e)
          (has_if new bit (ap (λ (n : ℕ). bit_at n (bit % 64)) same ∙ bit_at_set_same w64
          (slice_index words (bit / 64)) (bit % 64) (omega arith))),
    )
    | inr ne ↦ (let kept = others other ne in (
      λ h. inl (has_if words other (sym kept ∙ one_if new other h)),
      λ h. elim h [ inl old ↦ has_if new other (kept ∙ one_if words other old) | inr e ↦ absurd (ne e) ],
    ))
  ]);
}
  where
    word : ℕ
    word = bit_or (slice_index words (bit / 64)) (1 * 2 ^ (bit % 64) % 2 ^ bits w64)

    new : List ℕ
    new = set words (bit / 64) word

    same : slice_index new (bit / 64) ≡ word
    same = get_or-set_same words (bit / 64) word 0 (omega arith)

    others : (other : ℕ) → other ≢ bit
        → bit_at (slice_index new (other / 64)) (other % 64) ≡ bit_at (slice_index words (other / 64)) (other % 64)
    others other ne = elim (cases_eq (other / 64) (bit / 64)) [
      | inl e ↦ (let apart : other % 64 ≢ bit % 64 = λ f. ne (omega arith) in
          ap (λ (k : ℕ). bit_at (slice_index new k) (other % 64)) e ∙ ap (λ (n : ℕ). bit_at n (other % 64)) same
          ∙ bit_at_set_other w64 (slice_index words (bit / 64)) (bit % 64) (omega arith) (other % 64) apart
          ∙ ap (λ (k : ℕ). bit_at (slice_index words k) (other % 64)) (sym e))
      | inr apart ↦ ap (λ (n : ℕ). bit_at n (other % 64)) (get_or-set_other words (bit / 64) (other / 64) word 0 apart)
    ]

-- ---- fewer bits

-- word by word, up to a word
pub record AreCleared (old row new : List ℕ) (count : ℕ) : Type 0 where
  pub done : (k : ℕ) → k < count → slice_index new k ≡ bit_and (slice_index old k) (bit_not w64 (slice_index row k))
  pub rest : (k : ℕ) → count ≤ k → slice_index new k ≡ slice_index old k

-- before the first word nothing is cleared
pub cleared_none : (old row : List ℕ) → AreCleared old row old 0
cleared_none old row = record { done = λ k h. absurd (omega arith); rest = λ k h. refl }

-- the next word is cleared of the other row's
pub cleared_more : (old row new : List ℕ) (count : ℕ) → count < length new → AreCleared old row new count
    → AreCleared old row (set new count (bit_and (slice_index new count) (bit_not w64 (slice_index row count))))
    (count + 1)
cleared_more old row new count h s = record {
  done = λ k lt. (elim (cases_eq k count) [
    | inl e ↦ ap (λ (n : ℕ). slice_index next n) e ∙ here
        ∙ ap (λ (n : ℕ). bit_and (slice_index old n) (bit_not w64 (slice_index row n))) (sym e)
    | inr ne ↦ get_or-set_other new count k _ 0 ne ∙ s.done k (omega arith)
  ]);
  rest = λ k le. (let ne : k ≢ count = omega arith in get_or-set_other new count k _ 0 ne ∙ s.rest k (omega arith));
}
  where
    next : List ℕ
    next = set new count (bit_and (slice_index new count) (bit_not w64 (slice_index row count)))

    here : slice_index next count ≡ bit_and (slice_index old count) (bit_not w64 (slice_index row count))
    here = get_or-set_same new count _ 0 h ∙ ap (λ (n : ℕ). bit_and n (bit_not w64 (slice_index row count)))
        (s.rest count (omega arith))

-- a bit and-ed with what is not in another word is cleared by it
pub cleared_bit : (a b i : ℕ) → b < 2 ^ 64 → i < 64
    → bit_at (bit_and a (bit_not w64 b)) i ≡ min (bit_at a i) (1 - bit_at b i)
cleared_bit a b i small lt = bit_at_and a (bit_not w64 b) i ∙ ap (λ (n : ℕ). min (bit_at a i) n)
    (bit_at_not w64 b i small lt)

-- after the last word the row is without the other
pub cleared_all : (old row new : List ℕ) → length new ≡ length old → ((k : ℕ) → slice_index row k < 2 ^ 64)
    → AreCleared old row new (length old) → IsWithout old row new
cleared_all old row new whole small s = record {
  whole = whole;
  exact = λ bit. (elim (cases_lt (bit / 64) (length old)) [
    | inl lt ↦ (let here : bit_at (slice_index new (bit / 64)) (bit % 64) ≡ min
        (bit_at (slice_index old (bit / 64)) (bit % 64)) (1 - bit_at (slice_index row (bit / 64)) (bit % 64))
        = ap (λ (n : ℕ). bit_at n (bit % 64)) (s.done (bit / 64) lt) ∙ cleared_bit (slice_index old (bit / 64))
        (slice_index row (bit / 64)) (bit % 64) (small (bit / 64)) (omega arith) in (
          λ h. (let one = one_if new bit h in (
            has_if old bit (omega (arith, bit_at-lt (slice_index old (bit / 64)) (bit % 64))),
            λ r. (let other = one_if row bit r in absurd (omega arith)),
          )),
          λ h. (let one = one_if old bit h.0 in elim (zero_or_one (slice_index row (bit / 64)) (bit % 64)) [
            | inl set ↦ absurd (h.1 (has_if row bit set))
            | inr none ↦ has_if new bit (omega arith)
          ]),
        ))
    | inr past ↦ (λ h. absurd (not_past new bit (omega arith) h), λ h. absurd (not_past old bit past h.0))
  ]);
}

-- ---- rows of lists

-- a row with one bit more is that of one number more
pub row_push : (bits row new : List ℕ) (bit : ℕ) → IsRowOf bits row → IsWith row bit new
    → IsRowOf (bits ++ bit ∷ []) new
row_push bits row new bit old more = record {
  exact = λ other. (
    λ h. elim ((more.exact other).0 h) [
      | inl was ↦ Contains-append_left bits (bit ∷ []) other ((old.exact other).0 was)
      | inr e ↦ subst (Contains (bits ++ bit ∷ [])) (sym e) (Contains-push bits bit)
    ],
    λ c. elim (Contains-push_cases bits bit other c) [
      | inl was ↦ (more.exact other).1 (inl ((old.exact other).1 was))
      | inr e ↦ (more.exact other).1 (inr (sym e))
    ],
  );
}

-- a row of zeros has no bit
pub row_none : (row : List ℕ) → ((k : ℕ) → slice_index row k ≡ 0) → IsRowOf [] row
row_none row zero = record {
  exact = λ bit.
      (λ h. absurd (not_in_zero row bit (zero (bit / 64)) h), λ c. absurd (omega (arith, c.1)));
}

-- a bit of a row lies within its words
pub has_inside : (words : List ℕ) (bit : ℕ) → Has words bit → bit < 64 * length words
has_inside words bit h = elim (cases_lt (bit / 64) (length words)) [
  | inl lt ↦ omega arith
  | inr past ↦ absurd (not_past words bit past h)
]
