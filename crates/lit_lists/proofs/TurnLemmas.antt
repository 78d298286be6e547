-- Parts of one list that are filled from the lists of another.
use Rattle.std.proofs.Common.{◌≡◌, ℕ, zero, suc, ◌+◌, ◌-◌, ◌<◌, ◌≤◌, List, [], length, take, drop, cond, eqb, sum}
use Rattle.std.proofs.Common.{slice_index, Contains, sym, ap, subst, ◌∙◌, arith, inl, inr, length-drop}
use Rattle.std.specs.Prelude.{◌↔◌, All}
use Rattle.std.specs.List.Sorted.{IsStrictlyIncreasing}
use Rattle.std.proofs.lemmas.Bool.{cases_lt}
use Rattle.std.proofs.lemmas.Grind.{get_or_default_zero}
use Rattle.std.proofs.lemmas.List.{drop-drop, drop_all, get_or-drop, get_or-take, length-take-le}
use Rattle.std.proofs.lemmas.List.Sums.{sum_by-take-drop, sum_by_more}
use Rattle.cave_model.specs.Parts.{part, parts}
use Rattle.cave_model.specs.Plan.{AreDistinct}
use Rattle.cave_model.proofs.PassageLemmas.{part_past, part_there}
use Rattle.lit_lists.specs.Lists.{row_at}
use Rattle.lit_lists.specs.Rows.{AreEmptyRows, AreOfOneBox, AreTurned, AreWhole}
use Rattle.lit_lists.specs.Filling.{lists_in, times, AreCounts, AreFull, AreFurther, AreOfSize, AreSumsOf, HaveRoom}
use Rattle.lit_lists.proofs.TakeLemmas.{element_of}
use Rattle.lit_lists.proofs.FillLemmas.{list_in, list_past, length-lists_in}
use Rattle.lit_lists.proofs.PartLemmas.{length-parts}

-- one of the lists, in the list of all numbers from where it begins
module _ (starts numbers : List ℕ) (whole : AreWhole starts numbers) (row : ℕ) (h : row + 1 < length starts) where
  -- a number is in the list and in those behind it
  times_split : (number : ℕ) → times (part starts numbers row) number
      + times (drop (slice_index starts (row + 1)) numbers) number
      ≡ times (drop (slice_index starts row) numbers) number
  times_split number =
      let rise = whole.starting.ascending row h in
      let there : slice_index starts row + (slice_index starts (row + 1) - slice_index starts row)
      ≡ slice_index starts (row + 1) = omega arith in
      let behind : drop (slice_index starts (row + 1) - slice_index starts row) (drop (slice_index starts row) numbers)
      ≡ drop (slice_index starts (row + 1)) numbers =
      drop-drop (slice_index starts (row + 1) - slice_index starts row) (slice_index starts row) numbers
      ∙ ap (λ (n : ℕ). drop n numbers) there in
      let split = sum_by-take-drop (λ (x : ℕ). cond (eqb x number) 1 0) (drop (slice_index starts row) numbers)
      (slice_index starts (row + 1) - slice_index starts row) in
      let same : times (drop (slice_index starts (row + 1) - slice_index starts row)
      (drop (slice_index starts row) numbers)) number ≡ times (drop (slice_index starts (row + 1)) numbers) number =
      ap (λ (l : List ℕ). times l number) behind in
      omega (arith, split, same)

  -- its numbers are of the box
  row_inside : (target : List ℕ) → AreOfOneBox (parts starts numbers) → length target ≡ length starts
      → All (λ number. number + 1 < length target) (part starts numbers row)
  row_inside target boxed long = λ k d lt.
      (let cells = part starts numbers row in
      let has = subst (λ (l : List ℕ). Contains l (slice_index cells k)) (sym (part_there starts numbers row h))
      (element_of cells k lt) in
      let low = boxed.inside row (slice_index cells k) has in
      let same = get_or_default_zero cells k d lt in
      omega (arith, low, same, long, length-parts starts numbers))

  -- where there is room for the list and those behind it, there is for the list
  pub room_row : (target next : List ℕ) → AreOfOneBox (parts starts numbers) → length target ≡ length starts
      → AreOfSize target next (drop (slice_index starts row) numbers) → HaveRoom target next (part starts numbers row)
  room_row target next boxed long s = record {
    there = row_inside target boxed long;
    each = λ number low. (let size = s.each number low in let split = times_split number in
        omega (arith, size, split));
  }

  -- and once it is in, for those behind it
  pub size_row : (target next new : List ℕ) → length next ≡ length target
      → AreOfSize target next (drop (slice_index starts row) numbers)
      → AreFurther next (part starts numbers row) new
      → AreOfSize target new (drop (slice_index starts (row + 1)) numbers)
  size_row target next new long s on = record {
    each = λ number low. (let size = s.each number low in let split = times_split number in
        let now = on.each number (omega (arith, long)) in omega (arith, size, split, now));
  }

  -- each once
  pub row_once : AreOfOneBox (parts starts numbers) → AreDistinct (part starts numbers row)
  row_once boxed = subst AreDistinct (part_there starts numbers row h) (boxed.once row)

-- at the first list all numbers are yet to come
pub size_first : (starts numbers target next : List ℕ) → AreWhole starts numbers → AreOfSize target next numbers
    → AreOfSize target next (drop (slice_index starts 0) numbers)
size_first starts numbers target next whole s =
    subst (λ (n : ℕ). AreOfSize target next (drop n numbers)) (sym whole.first) s

-- behind the last list there are none, and so the parts are full
pub size_last : (starts numbers target next : List ℕ) (row : ℕ) → length starts ≡ row + 1 → AreWhole starts numbers
    → AreOfSize target next (drop (slice_index starts row) numbers) → AreFull target next
size_last starts numbers target next row long whole s =
    let at : slice_index starts row ≡ length numbers =
    ap (slice_index starts) (omega (arith, long)) ∙ whole.last in
    let none : drop (slice_index starts row) numbers ≡ [] =
    drop_all (slice_index starts row) numbers (omega (arith, at)) in
    record {
      each = λ number low. (let size = s.each number low in
          let zero : times (drop (slice_index starts row) numbers) number ≡ 0 =
          ap (λ (l : List ℕ). times l number) none in omega (arith, size, zero));
    }

-- ---- before the filling

-- the list in which the number at this index stands
record LiesIn (starts : List ℕ) (index : ℕ) : Type 0 where
  row : ℕ
  there : row + 1 < length starts
  begun : slice_index starts row ≤ index
  within : index < slice_index starts (row + 1)

-- what stands before a start stands in one of the lists before it
lies_in : (starts : List ℕ) (index : ℕ) → slice_index starts 0 ≡ 0 → (row : ℕ) → row < length starts
    → index < slice_index starts row → LiesIn starts index
lies_in starts index first zero h lt = absurd (omega (arith, first, lt))
lies_in starts index first (suc row) h lt = elim (cases_lt index (slice_index starts row)) [
  | inl before ↦ lies_in starts index first row (omega arith) before
  | inr past ↦ (let same : slice_index starts (suc row) ≡ slice_index starts (row + 1) =
      ap (slice_index starts) (omega arith) in
      record { row = row; there = omega arith; begun = past; within = omega (arith, lt, same) })
]

-- each of the numbers is of the box
pub numbers_inside : (starts numbers : List ℕ) → AreWhole starts numbers → AreOfOneBox (parts starts numbers)
    → All (λ number. number < length (parts starts numbers)) numbers
numbers_inside starts numbers whole boxed = λ index d h.
    (let some = whole.starting.some in
    let at = lies_in starts index whole.first (length starts - 1) (omega arith) (omega (arith, whole.last)) in
    let from = slice_index starts at.row in
    let to = slice_index starts (at.row + 1) in
    let inside = whole.starting.inside (at.row + 1) at.there in
    let long : length (part starts numbers at.row) ≡ to - from =
    length-take-le (to - from) (drop from numbers) (omega (arith, length-drop from numbers)) in
    let k : ℕ = index - from in
    let back : from + k ≡ index = omega (arith, at.begun) in
    let low : k < to - from = omega (arith, at.begun, at.within) in
    let is : slice_index (part starts numbers at.row) k ≡ slice_index numbers index =
    get_or-take (to - from) (drop from numbers) k 0 low ∙ get_or-drop from numbers k 0 ∙ ap (slice_index numbers) back
    in
    let has : Contains (part starts numbers at.row) (slice_index (part starts numbers at.row) k) =
    element_of (part starts numbers at.row) k (omega (arith, long, low)) in
    let boxed_is = boxed.inside at.row (slice_index (part starts numbers at.row) k)
    (subst (λ (l : List ℕ). Contains l (slice_index (part starts numbers at.row) k))
    (sym (part_there starts numbers at.row at.there)) has) in
    let same = get_or_default_zero numbers index d h in
    omega (arith, boxed_is, is, same))

-- parts where the next number goes to the start hold nothing
pub lists_none : (starts next numbers : List ℕ) (count : ℕ) → next ≡ starts → length starts ≡ count + 1
    → AreEmptyRows count (lists_in starts next numbers)
lists_none starts next numbers count e long = record {
  whole = omega (arith, length-lists_in starts next numbers, long);
  empty = λ cell. (elim (cases_lt (cell + 1) (length starts)) [
    | inl lt ↦ (let none : slice_index next cell - slice_index starts cell ≡ 0 =
        ap (λ (l : List ℕ). slice_index l cell - slice_index starts cell) e ∙ omega arith in
        list_in starts next numbers cell lt
        ∙ ap (λ (n : ℕ). take n (drop (slice_index starts cell) numbers)) none)
    | inr le ↦ list_past starts next numbers cell le
  ]);
}

-- parts between the sums of counts have room for what was counted
pub sums_room : (count : ℕ) (numbers counts starts next : List ℕ) → AreCounts count numbers counts
    → AreSumsOf counts starts → next ≡ starts → AreOfSize starts next numbers
sums_room count numbers counts starts next counted s e = record {
  each = λ part h. (let here = s.each part (omega (arith, s.whole)) in
      let after = s.each (part + 1) (omega (arith, s.whole)) in
      let more : sum (take (part + 1) counts) ≡ sum (take part counts) + slice_index counts part =
      sum_by_more (λ (x : ℕ). x) counts part 0 (omega (arith, s.whole)) in
      let is = counted.each part (omega (arith, s.whole, counted.whole)) in
      let same : slice_index next part ≡ slice_index starts part = ap (λ (l : List ℕ). slice_index l part) e in
      omega (arith, here, after, more, is, same));
}

-- ---- after the filling

-- the list in a full part is the whole part
full_row : (starts next numbers : List ℕ) → AreFull starts next → (row : ℕ)
    → row_at (lists_in starts next numbers) row ≡ row_at (parts starts numbers) row
full_row starts next numbers full row = elim (cases_lt (row + 1) (length starts)) [
  | inl lt ↦ list_in starts next numbers row lt
      ∙ ap (λ (n : ℕ). take (n - slice_index starts row) (drop (slice_index starts row) numbers)) (full.each row lt)
      ∙ sym (part_there starts numbers row lt)
  | inr le ↦ list_past starts next numbers row le ∙ sym (part_past starts numbers row le)
]

-- full parts are the lists that they were filled with
pub turned_parts : (rows : List (List ℕ)) (starts next numbers : List ℕ) → AreFull starts next
    → AreTurned rows (lists_in starts next numbers) → AreTurned rows (parts starts numbers)
turned_parts rows starts next numbers full s = record {
  exact = λ number cell. subst (λ (l : List ℕ). Contains l cell ↔ Contains (row_at rows cell) number)
      (full_row starts next numbers full number) (s.exact number cell);
  ascending = λ number. subst IsStrictlyIncreasing (full_row starts next numbers full number) (s.ascending number);
}
