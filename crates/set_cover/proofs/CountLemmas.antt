-- Counting bits, word by word.
use Rattle.std.proofs.Common.{◌≡◌, ◌≢◌, ℕ, zero, suc, ◌+◌, ◌-◌, ◌*◌, ◌/◌, ◌%◌, ◌^◌, ◌<◌, ◌≤◌, List, [], ◌∷◌, ◌++◌}
use Rattle.std.proofs.Common.{length, slice_index, Contains, refl, sym, ap, subst, ◌∙◌, arith, inl, inr}
use Rattle.std.proofs.Common.{length-append, count_ones}
use Rattle.std.specs.Prelude.{◌↔◌, AllPairs}
use Rattle.std.specs.Int.{bit_at}
use lib.Count.{ones_step}
use Rattle.std.proofs.lemmas.Bool.{cases_lt, cases_eq}
use Rattle.std.proofs.lemmas.Nat.Bits.{bit_at-zero, bit_at_lowest, bit_at-suc, bit_at_above}
use Rattle.std.proofs.lemmas.Nat.{ones-le}
use Rattle.std.proofs.lemmas.List.Elements.{Contains-append_cases, Contains-append_left, Contains-append_right}
use Rattle.set_cover.specs.Bits.{Has}
use Rattle.set_cover.specs.Counts.{IsCount}
use Rattle.set_cover.proofs.BitLemmas.{one_if, has_if, not_past}
use Rattle.set_cover.proofs.ListLemmas.{none_in, cons_cases, cons_later, cons_here, once_cons, once_append, no_more}

-- ---- the bits of one word

-- each bit of a word once, from this number on
record OfWord (word base : ℕ) : Type 0 where
  pub bits : List ℕ
  pub once : AllPairs (λ a b. a ≢ b) bits
  pub exact : (bit : ℕ) → Contains bits bit ↔ ((base ≤ bit) × (bit_at word (bit - base) ≡ 1))
  pub long : length bits ≡ count_ones word

-- the word zero has no bits
no_bits : (base : ℕ) → OfWord 0 base
no_bits base = record {
  bits = [];
  once = λ i j d lt h. absurd (omega arith);
  exact = λ bit. (λ has. none_in bit has, λ b. (let none = bit_at-zero (bit - base) in absurd (omega (arith, b.1))));
  long = omega (arith, ones-le 0 0 (omega arith));
}

-- a lowest bit before the bits of the other half
with_low : (word base : ℕ) → OfWord (word / 2) (base + 1) → OfWord word base
with_low word base half = elim (cases_eq (word % 2) 1) [
  | inl odd ↦ record {
    bits = base ∷ half.bits;
    once = once_cons base half.bits (λ has. (let b = (half.exact base).0 has in absurd (omega (arith, b.0)))) half.once;
    exact = λ bit. (
      λ has. (elim (cons_cases base half.bits bit has) [
        | inl e ↦ (omega arith, subst (λ (i : ℕ). bit_at word i ≡ 1) (lowest bit e) (bit_at_lowest word ∙ odd))
        | inr later ↦ (let b = (half.exact bit).0 later in (omega (arith, b.0), up bit b.0 ∙ b.1))
      ]),
      λ b. (elim (cases_lt base bit) [
        | inl lt ↦ cons_later base half.bits bit ((half.exact bit).1 (omega arith, sym (up bit (omega arith)) ∙ b.1))
        | inr le ↦ (let e : base ≡ bit = omega (arith, b.0) in subst (Contains (base ∷ half.bits)) e
            (cons_here base half.bits))
      ]),
    );
    long = omega (arith, half.long, ones_step word);
  }
  | inr even ↦ record {
    bits = half.bits;
    once = half.once;
    exact = λ bit. (
      λ has. (let b = (half.exact bit).0 has in (omega (arith, b.0), up bit b.0 ∙ b.1)),
      λ b. (elim (cases_lt base bit) [
        | inl lt ↦ (half.exact bit).1 (omega arith, sym (up bit (omega arith)) ∙ b.1)
        | inr le ↦ (let e : base ≡ bit = omega (arith, b.0) in
            let low : bit_at word 0 ≡ 1 = subst (λ (i : ℕ). bit_at word i ≡ 1) (sym (lowest bit e)) b.1 in
            absurd (even (sym (bit_at_lowest word) ∙ low)))
      ]),
    );
    long = (let small : word % 2 < 2 = omega arith in omega (arith, half.long, ones_step word, even));
  }
]
  where
    lowest : (bit : ℕ) → base ≡ bit → 0 ≡ bit - base
    lowest bit e = omega arith

    up : (bit : ℕ) → base + 1 ≤ bit → bit_at word (bit - base) ≡ bit_at (word / 2) (bit - (base + 1))
    up bit le = ap (bit_at word) (step bit le) ∙ bit_at-suc word (bit - (base + 1))
      where
        step : (bit : ℕ) → base + 1 ≤ bit → bit - base ≡ suc (bit - (base + 1))
        step bit le = omega arith

-- the bits of a word are as many as its ones
of_word : (size word base : ℕ) → word ≤ size → OfWord word base
of_word zero word base le = subst (λ (w : ℕ). OfWord w base) (omega arith) (no_bits base)
of_word (suc size) word base le = elim (cases_eq word 0) [
  | inl e ↦ subst (λ (w : ℕ). OfWord w base) (sym e) (no_bits base)
  | inr ne ↦ with_low word base (of_word size (word / 2) (base + 1) (omega arith))
]

-- ---- word by word

-- the bits of the first `index` words, each once, and their sum
pub record Counting (word : ℕ → ℕ) (index total : ℕ) : Type 0 where
  pub bits : List ℕ
  pub once : AllPairs (λ a b. a ≢ b) bits
  pub exact : (bit : ℕ) → Contains bits bit ↔ ((bit / 64 < index) × (bit_at (word (bit / 64)) (bit % 64) ≡ 1))
  pub long : length bits ≡ total
  pub small : total ≤ 64 * index

-- before the first word there are no bits
pub counting_none : (word : ℕ → ℕ) → Counting word 0 0
counting_none word = record {
  bits = [];
  once = λ i j d lt h. absurd (omega arith);
  exact = λ bit. (λ has. none_in bit has, λ b. absurd (omega (arith, b.0)));
  long = refl;
  small = omega arith;
}

-- the next word adds its ones
pub counting_more : (word : ℕ → ℕ) (index total : ℕ) → word index < 2 ^ 64 → Counting word index total
    → Counting word (index + 1) (total + count_ones (word index))
counting_more word index total fits s =
    let here = of_word (word index) (word index) (64 * index) (omega arith) in
    let inside : (bit : ℕ) → Contains here.bits bit → (bit / 64 ≡ index) × (bit_at (word index) (bit % 64) ≡ 1) =
    λ (bit : ℕ) (has : Contains here.bits bit). place bit ((here.exact bit).0 has) in
    record {
      bits = s.bits ++ here.bits;
      once = once_append s.bits here.bits s.once here.once
          (λ y h i. (let a = (s.exact y).0 h in let b = inside y i in omega (arith, a.0, b.0)));
      exact = λ bit. (
        λ has. (elim (Contains-append_cases s.bits here.bits bit has) [
          | inl old ↦ (let a = (s.exact bit).0 old in (omega (arith, a.0), a.1))
          | inr new ↦ (let b = inside bit new in
              (omega (arith, b.0), subst (λ (k : ℕ). bit_at (word k) (bit % 64) ≡ 1) (sym b.0) b.1))
        ]),
        λ b. (elim (cases_lt (bit / 64) index) [
          | inl lt ↦ Contains-append_left s.bits here.bits bit ((s.exact bit).1 (lt, b.1))
          | inr le ↦ (let at : bit / 64 ≡ index = omega (arith, b.0) in
              let low : bit % 64 ≡ bit - 64 * index = omega arith in
              Contains-append_right s.bits here.bits bit
              ((here.exact bit).1 (
                omega arith,
                subst (λ (i : ℕ). bit_at (word index) i ≡ 1) low
                    (subst (λ (k : ℕ). bit_at (word k) (bit % 64) ≡ 1) at b.1),
              )))
        ]),
      );
      long = omega (arith, length-append s.bits here.bits, s.long, here.long);
      small = omega (arith, s.small, ones-le 64 (word index) fits);
    }
  where
    place : (bit : ℕ) → (64 * index ≤ bit) × (bit_at (word index) (bit - 64 * index) ≡ 1)
        → (bit / 64 ≡ index) × (bit_at (word index) (bit % 64) ≡ 1)
    place bit b = elim (cases_lt (bit - 64 * index) 64) [
      | inl lt ↦ (let low : bit - 64 * index ≡ bit % 64 = omega (arith, b.0) in
          (omega (arith, b.0), subst (λ (i : ℕ). bit_at (word index) i ≡ 1) low b.1))
      | inr past ↦ (let none = bit_at_above (word index) 64 (bit - 64 * index) fits past in absurd (omega (arith, b.1)))
    ]

-- all words are counted
pub counting_all : (Kind : ℕ → Type 0) (word : ℕ → ℕ) (index total : ℕ)
    → ((bit : ℕ) → Kind bit ↔ ((bit / 64 < index) × (bit_at (word (bit / 64)) (bit % 64) ≡ 1)))
    → Counting word index total → IsCount Kind total
counting_all Kind word index total is s = record {
  some = (s.bits, record { once = s.once; exact = same });
  every = λ bits other. (
      let less = no_more bits s.bits other.once (λ z h. (same z).1 ((other.exact z).0 h)) in
      let more = no_more s.bits bits s.once (λ z h. (other.exact z).1 ((same z).0 h)) in
      omega (arith, s.long));
}
  where
    same : (bit : ℕ) → Contains s.bits bit ↔ Kind bit
    same bit = (λ has. (is bit).1 ((s.exact bit).0 has), λ k. (s.exact bit).1 ((is bit).0 k))

-- ---- of a row

-- the bits of a row are those of its words
pub of_row : (words : List ℕ) (index : ℕ) → length words ≤ index → (bit : ℕ)
    → Has words bit ↔ ((bit / 64 < index) × (bit_at (slice_index words (bit / 64)) (bit % 64) ≡ 1))
of_row words index all bit = (
  λ h. (elim (cases_lt (bit / 64) (length words)) [
    | inl lt ↦ (omega arith, one_if words bit h)
    | inr past ↦ absurd (not_past words bit past h)
  ]),
  λ b. has_if words bit b.1,
)
