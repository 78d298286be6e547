-- The tests of nodes.
use Rattle.std.proofs.Common.{◌≡◌, ℕ, ◌+◌, ◌<◌, ◌≤◌, inl, inr, List, [], ◌∷◌, ◌++◌, length, take, slice_index, get_or}
use Rattle.std.proofs.Common.{Contains, All, sym, subst, ◌∙◌, arith, below_more}
use Rattle.std.specs.Prelude.{Bool, false, IsTrue}
use Rattle.std.specs.List.Sorted.{IsStrictlyIncreasing}
use Rattle.std.proofs.lemmas.Bool.{true≢false}
use Rattle.std.proofs.lemmas.Grind.{get_or_default_zero}
use Rattle.std.proofs.lemmas.List.{take_more, take_all, get_or-take, length-take-le}
use Rattle.std.proofs.lemmas.List.Kept.{AllPairs-from_increasing}
use Rattle.std.proofs.lemmas.List.Elements.{All-push, Contains-append_left, Contains-push, Contains-push_cases}
use Rattle.lit_lists.proofs.PairLemmas.{rising_push}
use Rattle.node_judges.specs.Tests.{AreLeft}

-- an element stands at its index
pub element_at : (xs : List ℕ) (x : ℕ) → (has : Contains xs x) → slice_index xs has.0 ≡ x
element_at xs x has = sym (get_or_default_zero xs has.0 x has.1) ∙ has.2

-- what stands at an index is an element
pub element_of : (xs : List ℕ) (k : ℕ) → k < length xs → Contains xs (slice_index xs k)
element_of xs k h = (k, h, get_or_default_zero xs k (get_or xs k 0) h)

-- what holds at each index holds of each element
pub each_element : (P : ℕ → Type 0) (xs : List ℕ) (index : ℕ) → length xs ≤ index
    → ((k : ℕ) → k < index → P (slice_index xs k)) → (x : ℕ) → Contains xs x → P x
each_element P xs index all f x has = subst P (element_at xs x has) (f has.0 (omega (arith, has.1)))

-- what holds at each index below, and at this one, holds up to here
pub each_more : (P : ℕ → Type 0) (xs : List ℕ) (index : ℕ) → ((k : ℕ) → k < index → P (slice_index xs k))
    → P (slice_index xs index) → (k : ℕ) → k < index + 1 → P (slice_index xs k)
each_more P xs index f now = below_more (λ k. P (slice_index xs k)) index f now

-- a flag that is off isn't on
pub off_true : (b : Bool) → b ≡ false → IsTrue b → ⊥
off_true b e t = true≢false (sym t ∙ e)

-- ---- places that are left

-- of an ascending list, those before an index are below what stands there
not_in_take : (xs : List ℕ) (i : ℕ) → IsStrictlyIncreasing xs → i < length xs → (y : ℕ) → Contains (take i xs) y
    → y < slice_index xs i
not_in_take xs i up h y has =
    let lt : has.0 < i = omega (arith, has.1, length-take-le i xs (omega arith)) in
    let at : slice_index (take i xs) has.0 ≡ y = element_at (take i xs) y has in
    let same : slice_index (take i xs) has.0 ≡ slice_index xs has.0 = get_or-take i xs has.0 0 lt in
    let r = AllPairs-from_increasing xs up has.0 i 0 lt h in
    omega arith

-- of no places none is left
pub left_none : (barred left : List ℕ) → left ≡ [] → AreLeft [] barred left
left_none barred left e = record {
  ascending = subst IsStrictlyIncreasing (sym e) (λ k h. absurd (omega arith));
  exact = λ place. (
    λ h. (let g = subst (λ (l : List ℕ). Contains l place) e h in absurd (omega (arith, g.1))),
    λ b. absurd (omega (arith, b.0.1)),
  );
}

-- a place that isn't barred is left
pub left_take : (places barred left : List ℕ) (i : ℕ) → IsStrictlyIncreasing places → i < length places
    → AreLeft (take i places) barred left → (¬ Contains barred (slice_index places i))
    → AreLeft (take (i + 1) places) barred (left ++ slice_index places i ∷ [])
left_take places barred left i up h s free =
    subst (λ (l : List ℕ). AreLeft l barred (left ++ slice_index places i ∷ []))
    (sym (take_more places i 0 h)) (record {
      ascending = rising_push left (slice_index places i)
          s.ascending (λ y c. not_in_take places i up h y ((s.exact y).0 c).0);
      exact = λ place. (
        λ c. (elim (Contains-push_cases left (slice_index places i) place c) [
          | inl old ↦ (let b = (s.exact place).0 old in
              (Contains-append_left (take i places) (slice_index places i ∷ []) place b.0, b.1))
          | inr e ↦ (
            subst (Contains (take i places ++ slice_index places i ∷ [])) e
                (Contains-push (take i places) (slice_index places i)),
            subst (λ (p : ℕ). ¬ Contains barred p) e free,
          )
        ]),
        λ b. (elim (Contains-push_cases (take i places) (slice_index places i) place b.0) [
          | inl old ↦ Contains-append_left left (slice_index places i ∷ []) place ((s.exact place).1 (old, b.1))
          | inr e ↦ subst (Contains (left ++ slice_index places i ∷ [])) e (Contains-push left (slice_index places i))
        ]),
      );
    })

-- a barred place isn't
pub left_skip : (places barred left : List ℕ) (i : ℕ) → i < length places → AreLeft (take i places) barred left
    → Contains barred (slice_index places i) → AreLeft (take (i + 1) places) barred left
left_skip places barred left i h s out = subst (λ (l : List ℕ). AreLeft l barred left)
    (sym (take_more places i 0 h)) (record {
      ascending = s.ascending;
      exact = λ place. (
        λ c. (let b = (s.exact place).0 c in
            (Contains-append_left (take i places) (slice_index places i ∷ []) place b.0, b.1)),
        λ b. (elim (Contains-push_cases (take i places) (slice_index places i) place b.0) [
          | inl old ↦ (s.exact place).1 (old, b.1)
          | inr e ↦ absurd (b.1 (subst (Contains barred) e out))
        ]),
      );
    })

-- ---- all of a list

-- what holds of all up to an index, and there, holds of all up to the next
pub all_more : (P : ℕ → Type 0) (xs : List ℕ) (i : ℕ) → i < length xs → All P (take i xs) → P (slice_index xs i)
    → All P (take (i + 1) xs)
all_more P xs i h a p = subst (All P) (sym (take_more xs i 0 h)) (All-push P (take i xs) (slice_index xs i) a p)

-- and in the end of all
pub all_taken : (P : ℕ → Type 0) (xs : List ℕ) (i : ℕ) → length xs ≤ i → All P (take i xs) → All P xs
all_taken P xs i le a = subst (All P) (take_all i xs le) a
