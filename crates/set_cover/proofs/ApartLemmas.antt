-- A row grows by what another has, word by word, as long as none of it is there.
use Rattle.std.proofs.Common.{◌≡◌, ◌≢◌, ℕ, ◌+◌, ◌/◌, ◌%◌, ◌^◌, ◌<◌, ◌≤◌, ◌*◌, List, length, slice_index, refl, sym, ap}
use Rattle.std.proofs.Common.{◌∙◌, subst, arith, inl, inr, max, min, ◌-◌, set, get_or-set_same, get_or-set_other}
use Rattle.std.specs.Int.{bit_at, bit_not, trailing_zeros, w64}
use lib.Bits.{bit_and, bit_or, and_le_l}
use Rattle.std.proofs.lemmas.Bool.{cases_lt, cases_eq}
use Rattle.std.proofs.lemmas.Nat.Bits.{bit_at-zero, bit_at-lt, bit_at_and, bit_at_or, bit_at_not}
use Rattle.std.proofs.lemmas.Nat.Bits.{bit_at-trailing_zeros}
use Rattle.set_cover.specs.Bits.{Has, IsApart, IsWithApart}
use Rattle.set_cover.proofs.BitLemmas.{one_if, has_if, has_at, at_has, cleared_bit, has_or_not, not_past}

-- what the row has in a word and the other hasn't
abbrev pub more_of : List ℕ → List ℕ → ℕ → ℕ
more_of row other k = bit_and (slice_index row k) (bit_not w64 (slice_index other k))

-- the words before this one have grown, and the others are as they were
pub record HasGrown (old row other new : List ℕ) (count : ℕ) : Type 0 where
  pub done : (k : ℕ) → k < count → slice_index new k ≡ bit_or (slice_index old k) (more_of row other k)
  pub apart : (k : ℕ) → k < count → bit_and (slice_index old k) (more_of row other k) ≡ 0
  pub rest : (k : ℕ) → count ≤ k → slice_index new k ≡ slice_index old k

-- before the first word
pub grown_none : (old row other : List ℕ) → HasGrown old row other old 0
grown_none old row other =
    record { done = λ k lt. absurd (omega arith); apart = λ k lt. absurd (omega arith); rest = λ k le. refl }

-- a word with none of it grows
pub grown_more : (old row other new : List ℕ) (count : ℕ) → count < length new → HasGrown old row other new count
    → bit_and (slice_index new count) (more_of row other count) ≡ 0
    → HasGrown old row other (set new count (bit_or (slice_index new count) (more_of row other count))) (count + 1)
grown_more old row other new count inside s none = record {
  done = λ k lt. (elim (cases_eq k count) [
    | inl e ↦ ap (λ (n : ℕ). slice_index next n) e ∙ here
        ∙ ap (λ (n : ℕ). bit_or (slice_index old n) (more_of row other n)) (sym e)
    | inr ne ↦ get_or-set_other new count k _ 0 ne ∙ s.done k (omega arith)
  ]);
  apart = λ k lt. (elim (cases_eq k count) [
    | inl e ↦ ap (λ (n : ℕ). bit_and (slice_index old n) (more_of row other n)) e
        ∙ ap (λ (w : ℕ). bit_and w (more_of row other count)) (sym (s.rest count (omega arith))) ∙ none
    | inr ne ↦ s.apart k (omega arith)
  ]);
  rest = λ k le. (let ne : k ≢ count = omega arith in get_or-set_other new count k _ 0 ne ∙ s.rest k (omega arith));
}
  where
    next : List ℕ
    next = set new count (bit_or (slice_index new count) (more_of row other count))

    here : slice_index next count ≡ bit_or (slice_index old count) (more_of row other count)
    here = get_or-set_same new count _ 0 inside ∙ ap (λ (n : ℕ). bit_or n (more_of row other count))
        (s.rest count (omega arith))

-- a word with some of it
pub met_here : (old row other new : List ℕ) (k : ℕ) → HasGrown old row other new k → slice_index new k < 2 ^ 64
    → slice_index other k < 2 ^ 64 → 0 < bit_and (slice_index new k) (more_of row other k) → ¬ IsApart old row other
met_here old row other new k s small fits pos apart =
    let word = bit_and (slice_index new k) (more_of row other k) in
    let low : word < 2 ^ 64 = omega (arith, and_le_l (slice_index new k) (more_of row other k)) in
    let lowest = bit_at-trailing_zeros w64 word pos low in
    let i = trailing_zeros w64 word in
    let is = bit_at_and (slice_index new k) (more_of row other k) i in
    let cleared = cleared_bit (slice_index row k) (slice_index other k) i fits lowest.0 in
    let was = bit_at-lt (slice_index new k) i in
    let in_row = bit_at-lt (slice_index row k) i in
    let more = bit_at-lt (more_of row other k) i in
    let same : slice_index new k ≡ slice_index old k = s.rest k (omega arith) in
    apart (64 * k + i) (has_at row k i (64 * k + i) lowest.0 refl (omega (arith, cleared, is, lowest.1, in_row, more)))
    (λ h. (let in_other = at_has other k i (64 * k + i) lowest.0 refl h in
    absurd (omega (arith, cleared, is, lowest.1, more, in_other))))
    (has_at old k i (64 * k + i) lowest.0 refl (subst (λ (w : ℕ). bit_at w i ≡ 1) same
    (omega (arith, is, lowest.1, was))))

-- after the last word the row has grown
pub grown_all : (old row other new : List ℕ) → length new ≡ length old → length row ≡ length old
    → ((k : ℕ) → slice_index other k < 2 ^ 64) → HasGrown old row other new (length old)
    → IsWithApart old row other new
grown_all old row other new whole long small s = record {
  whole = whole;
  apart = λ bit h free was. (elim (cases_lt (bit / 64) (length old)) [
    | inl lt ↦ (let both = bit_at_and (slice_index old (bit / 64)) (more_of row other (bit / 64)) (bit % 64) in
        let none : bit_at (bit_and (slice_index old (bit / 64)) (more_of row other (bit / 64))) (bit % 64) ≡ 0 =
        ap (λ (n : ℕ). bit_at n (bit % 64)) (s.apart (bit / 64) lt) ∙ bit_at-zero (bit % 64) in
        absurd (omega (arith, both, none, one_if old bit was, more_if bit h free)))
    | inr past ↦ not_past old bit past was
  ]);
  exact = λ bit. (elim (cases_lt (bit / 64) (length old)) [
    | inl lt ↦ (let here = ap (λ (n : ℕ). bit_at n (bit % 64)) (s.done (bit / 64) lt)
        ∙ bit_at_or (slice_index old (bit / 64)) (more_of row other (bit / 64)) (bit % 64) in (
          λ h. elim (has_or_not old bit) [
            | inl was ↦ inl was
            | inr not ↦ (let one = one_if new bit h in
                let more : bit_at (more_of row other (bit / 64)) (bit % 64) ≡ 1 =
                from_more bit not (here_is bit one here)
                in inr (row_if bit more, other_if bit more))
          ],
          λ h. elim h [
            | inl was ↦ has_if new bit (omega (
              arith,
              here,
              one_if old bit was,
              bit_at-lt (more_of row other (bit / 64)) (bit % 64),
            ))
            | inr r ↦ has_if new bit (omega (
              arith,
              here,
              more_if bit r.0 r.1,
              bit_at-lt (slice_index old (bit / 64)) (bit % 64),
            ))
          ],
        ))
    | inr past ↦ (
      λ h. absurd (not_past new bit (omega (arith, whole, past)) h),
      λ h. elim h [
        | inl was ↦ absurd (not_past old bit past was)
        | inr r ↦ absurd (not_past row bit (omega (arith, long, past)) r.0)
      ],
    )
  ]);
}
  where
    -- a bit of what is added, by the bits of the row and of the other
    split : (bit : ℕ) → bit_at (more_of row other (bit / 64)) (bit % 64)
        ≡ min (bit_at (slice_index row (bit / 64)) (bit % 64)) (1 - bit_at (slice_index other (bit / 64)) (bit % 64))
    split bit = bit_at_and (slice_index row (bit / 64)) (bit_not w64 (slice_index other (bit / 64))) (bit % 64)
        ∙ ap (min (bit_at (slice_index row (bit / 64)) (bit % 64)))
        (bit_at_not w64 (slice_index other (bit / 64)) (bit % 64) (small (bit / 64)) (omega arith))

    none_if : (bit : ℕ) → (¬ Has other bit) → bit_at (slice_index other (bit / 64)) (bit % 64) ≡ 0
    none_if bit free = elim (cases_eq (bit_at (slice_index other (bit / 64)) (bit % 64)) 1) [
      | inl one ↦ absurd (free (has_if other bit one))
      | inr ne ↦ (let lt = bit_at-lt (slice_index other (bit / 64)) (bit % 64) in omega (arith, lt, ne))
    ]

    more_if : (bit : ℕ) → Has row bit → (¬ Has other bit) → bit_at (more_of row other (bit / 64)) (bit % 64) ≡ 1
    more_if bit h free = (let zero : bit_at (slice_index other (bit / 64)) (bit % 64) ≡ 0 = none_if bit free in
        omega (arith, split bit, one_if row bit h, zero))

    row_if : (bit : ℕ) → bit_at (more_of row other (bit / 64)) (bit % 64) ≡ 1 → Has row bit
    row_if bit more = has_if row bit
        (omega (arith, split bit, more, bit_at-lt (slice_index row (bit / 64)) (bit % 64)))

    other_if : (bit : ℕ) → bit_at (more_of row other (bit / 64)) (bit % 64) ≡ 1 → ¬ Has other bit
    other_if bit more h = absurd (omega (arith, split bit, more, one_if other bit h))

    here_is : (bit : ℕ) → bit_at (slice_index new (bit / 64)) (bit % 64) ≡ 1
        → bit_at (slice_index new (bit / 64)) (bit % 64)
        ≡ max (bit_at (slice_index old (bit / 64)) (bit % 64)) (bit_at (more_of row other (bit / 64)) (bit % 64))
        → max (bit_at (slice_index old (bit / 64)) (bit % 64)) (bit_at (more_of row other (bit / 64)) (bit % 64)) ≡ 1
    here_is bit one here = sym here ∙ one

    from_more : (bit : ℕ) → (¬ Has old bit)
        → max (bit_at (slice_index old (bit / 64)) (bit % 64)) (bit_at (more_of row other (bit / 64)) (bit % 64)) ≡ 1
        → bit_at (more_of row other (bit / 64)) (bit % 64) ≡ 1
    from_more bit not most = elim (cases_eq (bit_at (slice_index old (bit / 64)) (bit % 64)) 1) [
      | inl one ↦ absurd (not (has_if old bit one))
      | inr ne ↦ (let lt = bit_at-lt (slice_index old (bit / 64)) (bit % 64) in omega (arith, lt, ne, most))
    ]
