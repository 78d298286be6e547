-- Counting numbers, and the sums of counts.
use Rattle.std.proofs.Common.{◌≡◌, ℕ, ◌+◌, ◌*◌, ◌<◌, ◌≤◌, List, [], ◌∷◌, ◌++◌, length, take, set, sum}
use Rattle.std.proofs.Common.{slice_index, eqb, refl, sym, ap, subst, ◌∙◌, arith, inl, inr, length-set}
use Rattle.std.proofs.Common.{get_or-set_same, get_or-set_other}
use Rattle.std.specs.Prelude.{replicate}
use Rattle.std.proofs.lemmas.Bool.{cases_eq, cases_lt, eq-eqb, ne_eqb}
use Rattle.std.proofs.lemmas.List.{get_or-replicate, length-take-le, take_all, get_or_append_left, get_or_push}
use Rattle.std.proofs.lemmas.List.{length_push}
use Rattle.std.proofs.lemmas.List.Folds.{sum_by-replicate}
use Rattle.std.proofs.lemmas.List.Sums.{count_by_more_yes, count_by_more_no, count_by-le-length}
use Rattle.std.proofs.lemmas.List.Sums.{sum_by-set, sum_by_more, sum_by-take-le}
use Rattle.lit_lists.specs.Filling.{times, AreCounts, AreSumsOf}

-- ---- counts

-- before the first number nothing is counted
pub counts_none : (count : ℕ) (numbers counts : List ℕ) → counts ≡ replicate count 0 → length counts ≡ count
    → AreCounts count (take 0 numbers) counts
counts_none count numbers counts e whole = record {
  whole = whole;
  each = λ number h. ap (λ (l : List ℕ). slice_index l number) e ∙ get_or-replicate count number 0 0 h;
  total = (let none : sum (replicate count 0) ≡ count * 0 = sum_by-replicate (λ (x : ℕ). x) count 0 in
      ap sum e ∙ none ∙ omega arith);
}

-- the next is counted
pub counts_more : (count : ℕ) (numbers counts : List ℕ) (index : ℕ) → index < length numbers
    → slice_index numbers index < count → AreCounts count (take index numbers) counts
    → AreCounts count (take (index + 1) numbers)
    (set counts (slice_index numbers index) (slice_index counts (slice_index numbers index) + 1))
counts_more count numbers counts index h inside s =
    let n = slice_index numbers index in
    record {
      whole = length-set counts n (slice_index counts n + 1) ∙ s.whole;
      each = λ number low. (elim (cases_eq number n) [
        | inl e ↦ (let more : times (take (index + 1) numbers) number ≡ times (take index numbers) number + 1 =
            count_by_more_yes (λ (other : ℕ). eqb other number) numbers index 0 h (eq-eqb n number (sym e)) in
            let old = s.each number low in
            let now : slice_index (set counts n (slice_index counts n + 1)) number ≡ slice_index counts n + 1 =
            ap (slice_index (set counts n (slice_index counts n + 1))) e
            ∙ get_or-set_same counts n (slice_index counts n + 1) 0 (omega (arith, s.whole, inside)) in
            let same : slice_index counts number ≡ slice_index counts n = ap (slice_index counts) e in
            omega (arith, more, old, now, same))
        | inr ne ↦ (let none : times (take (index + 1) numbers) number ≡ times (take index numbers) number =
            count_by_more_no (λ (other : ℕ). eqb other number) numbers index 0 h
            (ne_eqb n number (λ e. ne (sym e))) in
            get_or-set_other counts n number (slice_index counts n + 1) 0 ne ∙ s.each number low ∙ sym none)
      ]);
      total = (let sums = sum_by-set (λ (x : ℕ). x) counts n (slice_index counts n + 1) 0
          (omega (arith, s.whole, inside)) in
          let now = length-take-le (index + 1) numbers (omega arith) in
          let old = length-take-le index numbers (omega arith) in
          omega (arith, sums, now, old, s.total));
    }

-- no number is counted more often than there are numbers
pub count_low : (count : ℕ) (numbers counts : List ℕ) (index number : ℕ) → index ≤ length numbers → number < count
    → AreCounts count (take index numbers) counts → slice_index counts number ≤ index
count_low count numbers counts index number h low s =
    let few = count_by-le-length (λ (other : ℕ). eqb other number) (take index numbers) in
    let long = length-take-le index numbers h in
    let is = s.each number low in
    omega (arith, few, long, is)

-- after the last all are counted
pub counts_all : (count : ℕ) (numbers counts : List ℕ) (index : ℕ) → length numbers ≤ index
    → AreCounts count (take index numbers) counts → AreCounts count numbers counts
counts_all count numbers counts index h s =
    subst (λ (l : List ℕ). AreCounts count l counts) (take_all index numbers h) s

-- ---- sums

-- the sums of the first counts: of none, of one, and so on up to `index` of them
pub record SumsSoFar (counts sums : List ℕ) (index total : ℕ) : Type 0 where
  pub whole : length sums ≡ index + 1
  pub each : (k : ℕ) → k ≤ index → slice_index sums k ≡ sum (take k counts)
  pub summed : total ≡ sum (take index counts)

-- before the first count the sum is none
pub sums_none : (counts : List ℕ) → SumsSoFar counts (0 ∷ []) 0 0
sums_none counts = record {
  whole = refl;
  each = λ k h. (let first : k ≡ 0 = omega arith in
      subst (λ (n : ℕ). slice_index (0 ∷ []) n ≡ sum (take n counts)) (sym first) refl);
  summed = refl;
}

-- the next count is added
pub sums_more : (counts sums : List ℕ) (index total : ℕ) → index < length counts → SumsSoFar counts sums index total
    → SumsSoFar counts (sums ++ (total + slice_index counts index) ∷ []) (index + 1)
    (total + slice_index counts index)
sums_more counts sums index total h s =
    let more : sum (take (index + 1) counts) ≡ sum (take index counts) + slice_index counts index =
    sum_by_more (λ (x : ℕ). x) counts index 0 h in
    let now : total + slice_index counts index ≡ sum (take (index + 1) counts) = omega (arith, more, s.summed) in
    record {
      whole = length_push sums (total + slice_index counts index) ∙ ap (λ (n : ℕ). n + 1) s.whole;
      each = λ k le. (elim (cases_lt k (index + 1)) [
        | inl lt ↦ get_or_append_left sums ((total + slice_index counts index) ∷ []) 0 k (omega (arith, s.whole))
            ∙ s.each k (omega arith)
        | inr past ↦ (let last : k ≡ index + 1 = omega arith in
            get_or_push sums (total + slice_index counts index) 0 k (s.whole ∙ sym last) ∙ now
            ∙ ap (λ (n : ℕ). sum (take n counts)) (sym last))
      ]);
      summed = now;
    }

-- a sum of some of the counts is at most that of all
pub sum_low : (counts : List ℕ) (index : ℕ) → index < length counts
    → sum (take index counts) + slice_index counts index ≤ sum counts
sum_low counts index h =
    let more : sum (take (index + 1) counts) ≡ sum (take index counts) + slice_index counts index =
    sum_by_more (λ (x : ℕ). x) counts index 0 h in
    let low : sum (take (index + 1) counts) ≤ sum counts = sum_by-take-le (λ (x : ℕ). x) counts (index + 1) in
    omega (arith, more, low)

-- after the last count these are all sums
pub sums_all : (counts sums : List ℕ) (index total : ℕ) → index ≡ length counts → SumsSoFar counts sums index total
    → AreSumsOf counts sums
sums_all counts sums index total e s = record {
  whole = s.whole ∙ ap (λ (n : ℕ). n + 1) e;
  each = λ k h. s.each k (omega (arith, e, h));
}
