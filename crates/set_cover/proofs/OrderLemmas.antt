-- Ascending lists, and where a number stands in one.
use Rattle.std.proofs.Common.{◌≡◌, ◌≢◌, ℕ, zero, suc, ◌<◌, ◌≤◌, nat_eq, List, All, length, take, get_or, slice_index}
use Rattle.std.proofs.Common.{Contains, Result, MatchResult, MatchOption, sym, ap, ◌∙◌, arith, inl, inr}
use Rattle.std.specs.Prelude.{AllPairs}
use Rattle.std.specs.Result.{result_ok}
use Rattle.std.specs.Cmp.{unsigned_Decides}
use Rattle.std.specs.Ordering.{nat_cmp}
use Rattle.std.specs.List.Sorted.{IsStrictlyIncreasing, IsPermutation, IsSorted, IsBinarySearchResult}
use Rattle.std.proofs.Common.{Ok, Err}
use Rattle.std.proofs.lemmas.Bool.{cases_lt}
use Rattle.std.proofs.lemmas.Grind.{get_or_default_zero}
use Rattle.std.proofs.lemmas.List.{get_or_default, get_or-take, length-take-le}
use Rattle.std.proofs.lemmas.List.Kept.{AllPairs-from_increasing}
use Rattle.std.proofs.lemmas.List.Sorted.{IsNonDecreasingBy-from_sort, searched}
use Rattle.std.proofs.lemmas.Map.Keys.{IsStrictlyIncreasing-from_distinct, IsDistinct-IsPermutation}
use Rattle.std.proofs.lemmas.Map.Made.{IsDistinct-from_AllPairs}
use Rattle.set_cover.specs.Instance.{StandsAt}

-- an element stands where it was found
pub element_at : (xs : List ℕ) (x : ℕ) → (has : Contains xs x) → slice_index xs has.0 ≡ x
element_at xs x has = sym (get_or_default_zero xs has.0 x has.1) ∙ has.2

-- what stands somewhere is an element
pub element_of : (xs : List ℕ) (x k : ℕ) → k < length xs → slice_index xs k ≡ x → Contains xs x
element_of xs x k h e = (k, h, get_or_default_zero xs k x h ∙ e)

-- in an ascending list what stands later is greater
pub rises : (xs : List ℕ) → IsStrictlyIncreasing xs → (i j : ℕ) → i < j → j < length xs
    → slice_index xs i < slice_index xs j
rises xs up i j lt h = AllPairs-from_increasing xs up i j 0 lt h

-- and what doesn't stand before isn't smaller
pub ascends : (xs : List ℕ) → IsStrictlyIncreasing xs → (i j : ℕ) → i ≤ j → j < length xs
    → slice_index xs i ≤ slice_index xs j
ascends xs up i j le h = elim (cases_lt i j) [
  | inl lt ↦ (let r = rises xs up i j lt h in omega arith)
  | inr ge ↦ (let same : i ≡ j = omega arith in let e : slice_index xs i ≡ slice_index xs j =
      ap (slice_index xs) same in omega arith)
]

-- each number stands there once
pub stands_once : (xs : List ℕ) → IsStrictlyIncreasing xs → (i j : ℕ) → i < length xs → j < length xs
    → slice_index xs i ≡ slice_index xs j → i ≡ j
stands_once xs up i j hi hj e = elim (cases_lt i j) [
  | inl lt ↦ (let r = rises xs up i j lt hj in absurd (omega arith))
  | inr ge ↦ elim (cases_lt j i) [
    | inl lt ↦ (let r = rises xs up j i lt hi in absurd (omega arith))
    | inr le ↦ omega arith
  ]
]

-- what a search in ascending numbers found
pub found_by : (xs : List ℕ) (x : ℕ) (r : Result ℕ ℕ) → IsStrictlyIncreasing xs
    → IsBinarySearchResult (λ y. nat_cmp y x) xs r
    → MatchOption (result_ok r) (Contains xs x → ⊥) (λ index. StandsAt xs index x)
found_by xs x r up is = told r (searched xs x r is (ascends xs up))
  where
    told : (r : Result ℕ ℕ) → MatchResult r (λ i. (i < length xs) × (get_or xs i 0 ≡ x))
        (λ i. (i ≤ length xs) × ((k : ℕ) → k < i → get_or xs k 0 < x) × ((k : ℕ) → i ≤ k → k < length xs
        → x < get_or xs k 0)) → MatchOption (result_ok r) (Contains xs x → ⊥) (λ index. StandsAt xs index x)
    told (Ok i) h = record {
      inside = h.0;
      there = sym (get_or_default_zero xs i x h.0)
          ∙ get_or_default xs i x 0 h.0 ∙ h.1;
    }
    told (Err i) h = λ has.
        (let at = element_at xs x has in elim (cases_lt has.0 i) [
          | inl lt ↦ (let b = h.1 has.0 lt in absurd (omega arith))
          | inr le ↦ (let b = h.2 has.0 le has.1 in absurd (omega arith))
        ])

-- a test for equal numbers doesn't mind their order
flips : (x y : ℕ) → nat_eq x y ≡ nat_eq y x
flips x y = grind arith

-- distinct numbers that a sort put in order rise
pub sorted_rises : (xs ys : List ℕ) → AllPairs (λ a b. a ≢ b) xs → IsPermutation xs ys → IsSorted nat_cmp ys
    → IsStrictlyIncreasing ys
sorted_rises xs ys once moved sorted =
    IsStrictlyIncreasing-from_distinct ys (IsNonDecreasingBy-from_sort (λ (x : ℕ). x) ys sorted)
    (IsDistinct-IsPermutation _ flips xs ys moved (IsDistinct-from_AllPairs unsigned_Decides xs once))

-- what stands at an index doesn't stand before it
pub fresh : (xs : List ℕ) (i : ℕ) → AllPairs (λ a b. a ≢ b) xs → i < length xs
    → Contains (take i xs) (slice_index xs i) → ⊥
fresh xs i once h has =
    let lt : has.0 < i = omega (arith, has.1, length-take-le i xs (omega arith)) in
    once has.0 i 0 lt h (sym (get_or-take i xs has.0 0 lt) ∙ element_at (take i xs) (slice_index xs i) has)

-- an ascending number is at least its index
pub index_below : (xs : List ℕ) (k : ℕ) → IsStrictlyIncreasing xs → k < length xs → k ≤ slice_index xs k
index_below xs zero up h = omega arith
index_below xs (suc k) up h = (let before = index_below xs k up (omega arith) in let step = rises xs up k (suc k)
    (omega arith) h in omega arith)

-- ascending numbers below a limit are no more than the limit
pub few_below : (xs : List ℕ) (limit : ℕ) → IsStrictlyIncreasing xs → All (λ x. x < limit) xs → length xs ≤ limit
few_below xs limit up below = elim (cases_lt limit (length xs)) [
  | inl lt ↦ (let low = index_below xs limit up lt in let high : slice_index xs limit < limit = below limit 0 lt in
      absurd (omega arith))
  | inr le ↦ le
]
