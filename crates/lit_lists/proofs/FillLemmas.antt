-- Lists in the parts of one list, as they are filled.
use Rattle.std.proofs.Common.{◌≡◌, ◌≢◌, ℕ, zero, suc, ◌+◌, ◌-◌, ◌<◌, ◌≤◌, List, [], ◌∷◌, ◌++◌, length, take, drop}
use Rattle.std.proofs.Common.{set, slice_index, refl, sym, ap, subst, ◌∙◌, arith, inl, inr, length-set, length-drop}
use Rattle.std.proofs.Common.{get_or-set_same, get_or-set_other}
use Rattle.std.proofs.Common.{cond, eqb, sum}
use Rattle.std.proofs.lemmas.Bool.{cases_eq, cases_lt, eq-eqb, ne_eqb}
use Rattle.std.proofs.lemmas.List.{take-set-le, take_more_set, drop-set-lt, drop-set-add, get_or_past, take_all}
use Rattle.std.proofs.lemmas.List.Sums.{count_by_more_yes, count_by_more_no, sum_by-take-le, sum_by_more}
use Rattle.std.proofs.lemmas.List.FromFn.{get_or-map-range_with_len, length-map-range_with_len}
use Rattle.cave_model.specs.Parts.{AreStarts}
use Rattle.lit_lists.specs.Lists.{row_at}
use Rattle.lit_lists.specs.Rows.{IsPushed}
use Rattle.lit_lists.specs.Filling.{filled, lists_in, times, AreFurther, AreSumsOf, HasRoom, HaveRoom, IsFilling}

-- later parts start no earlier
pub ascends : (starts numbers : List ℕ) → AreStarts starts numbers → (gap from : ℕ) → from + gap < length starts
    → slice_index starts from ≤ slice_index starts (from + gap)
ascends starts numbers s zero from h =
    let same : slice_index starts from ≡ slice_index starts (from + zero) = ap (slice_index starts) (omega arith) in
    omega (arith, same)
ascends starts numbers s (suc gap) from h =
    let near = ascends starts numbers s gap from (omega arith) in
    let step = s.ascending (from + gap) (omega arith) in
    let next : slice_index starts (from + gap + 1) ≡ slice_index starts (from + suc gap) =
    ap (slice_index starts) (omega arith) in
    omega (arith, near, step, next)

-- the list in a part
pub list_in : (starts next numbers : List ℕ) (part : ℕ) → part + 1 < length starts
    → row_at (lists_in starts next numbers) part ≡ filled starts next numbers part
list_in starts next numbers part h =
    get_or-map-range_with_len (filled starts next numbers) 0 (length starts - 1) part part []
    (omega arith) (omega arith)

-- past the last part there is none
pub list_past : (starts next numbers : List ℕ) (part : ℕ) → length starts ≤ part + 1
    → row_at (lists_in starts next numbers) part ≡ []
list_past starts next numbers part h =
    let long = length-map-range_with_len (filled starts next numbers) 0 (length starts - 1) in
    get_or_past (lists_in starts next numbers) part [] (omega (arith, long))

-- there are as many lists as starts, less one
pub length-lists_in : (starts next numbers : List ℕ) → length (lists_in starts next numbers) ≡ length starts - 1
length-lists_in starts next numbers = length-map-range_with_len (filled starts next numbers) 0 (length starts - 1)

-- what is written right behind a piece makes it longer
piece_more : (numbers : List ℕ) (from to number : ℕ) → from ≤ to → to < length numbers
    → take (to + 1 - from) (drop from (set numbers to number)) ≡ take (to - from) (drop from numbers) ++ number ∷ []
piece_more numbers from to number h inside =
    let there : from + (to - from) ≡ to = omega arith in
    let long : to + 1 - from ≡ to - from + 1 = omega arith in
    ap (λ (n : ℕ). take n (drop from (set numbers to number))) long
    ∙ ap (λ (n : ℕ). take (to - from + 1) (drop from (set numbers n number))) (sym there)
    ∙ ap (take (to - from + 1)) (drop-set-add from numbers (to - from) number)
    ∙ take_more_set (drop from numbers) (to - from) number (omega (arith, length-drop from numbers))

-- what is written behind a piece leaves it
piece_before : (numbers : List ℕ) (from to at number : ℕ) → from ≤ to → to ≤ at
    → take (to - from) (drop from (set numbers at number)) ≡ take (to - from) (drop from numbers)
piece_before numbers from to at number h behind =
    let there : from + (at - from) ≡ at = omega arith in
    ap (λ (n : ℕ). take (to - from) (drop from (set numbers n number))) (sym there)
    ∙ ap (take (to - from)) (drop-set-add from numbers (at - from) number)
    ∙ take-set-le (to - from) (drop from numbers) (at - from) number (omega arith)

-- what is written before a piece leaves it
piece_after : (numbers : List ℕ) (from to at number : ℕ) → at < from
    → take (to - from) (drop from (set numbers at number)) ≡ take (to - from) (drop from numbers)
piece_after numbers from to at number h = ap (take (to - from)) (drop-set-lt from numbers at number h)

-- parts with room for these counts of numbers, and nothing in them
pub filling_none : (counts starts next numbers : List ℕ) → AreSumsOf counts starts → next ≡ starts
    → length numbers ≡ slice_index starts (length counts) → IsFilling starts next numbers
filling_none counts starts next numbers s empty long = record {
  whole = ap length empty;
  parts = record {
    starting = record {
      some = omega (arith, s.whole);
      ascending = rising;
      inside = λ part h. (let here = s.each part (omega (arith, s.whole)) in
          let all = s.each (length counts) (omega arith) in
          let whole : sum (take (length counts) counts) ≡ sum counts =
          ap sum (take_all (length counts) counts (omega arith)) in
          let low : sum (take part counts) ≤ sum counts = sum_by-take-le (λ (x : ℕ). x) counts part in
          omega (arith, here, all, whole, low, long));
    };
    first = s.each 0 (omega arith);
    last = ap (slice_index starts) (omega (arith, s.whole)) ∙ sym long;
  };
  begun = λ part h. (let same : slice_index next part ≡ slice_index starts part =
      ap (λ (l : List ℕ). slice_index l part) empty in omega (arith, same));
  within = λ part h. (let same : slice_index next part ≡ slice_index starts part =
      ap (λ (l : List ℕ). slice_index l part) empty in let up = rising part h in omega (arith, same, up));
} where
  rising : (part : ℕ) → part + 1 < length starts → slice_index starts part ≤ slice_index starts (part + 1)
  rising part h =
      let here = s.each part (omega (arith, s.whole)) in
      let next = s.each (part + 1) (omega (arith, s.whole)) in
      let more : sum (take (part + 1) counts) ≡ sum (take part counts) + slice_index counts part =
      sum_by_more (λ (x : ℕ). x) counts part 0 (omega (arith, s.whole)) in
      omega (arith, here, next, more)

-- a number is put at the end of the list in a part that isn't full
module _ (starts next numbers : List ℕ) (part number : ℕ) (s : IsFilling starts next numbers)
    (free : HasRoom starts next part) where
  abbrev at : ℕ
  at = slice_index next part

  abbrev further : List ℕ
  further = set next part (at + 1)

  abbrev more : List ℕ
  more = set numbers at number

  further_here : slice_index further part ≡ at + 1
  further_here = get_or-set_same next part (at + 1) 0 (omega (arith, s.whole, free.there))

  further_other : (other : ℕ) → other ≢ part → slice_index further other ≡ slice_index next other
  further_other other ne = get_or-set_other next part other (at + 1) 0 ne

  -- there is a place for it
  pub place_there : slice_index next part < length numbers
  place_there = let end = s.parts.starting.inside (part + 1) free.there in omega (arith, free.room)

  filled_here : filled starts further more part ≡ filled starts next numbers part ++ number ∷ []
  filled_here =
      ap (λ (n : ℕ). take (n - slice_index starts part) (drop (slice_index starts part) more)) further_here
      ∙ piece_more numbers (slice_index starts part) at number (s.begun part free.there) place_there

  filled_other : (other : ℕ) → other + 1 < length starts → other ≢ part
      → filled starts further more other ≡ filled starts next numbers other
  filled_other other h ne =
      ap (λ (n : ℕ). take (n - slice_index starts other) (drop (slice_index starts other) more))
      (further_other other ne)
      ∙ elim (cases_lt other part) [
        | inl lt ↦ (let gap : other + 1 + (part - (other + 1)) ≡ part = omega arith in
            let up = ascends starts numbers s.parts.starting (part - (other + 1)) (other + 1)
            (omega (arith, gap, free.there)) in
            let same : slice_index starts (other + 1 + (part - (other + 1))) ≡ slice_index starts part =
            ap (slice_index starts) gap in let mine = s.within other h in let begun = s.begun part free.there in
            piece_before numbers (slice_index starts other) (slice_index next other) at number (s.begun other h)
            (omega (arith, up, same, mine, begun)))
        | inr le ↦ (let gap : part + 1 + (other - (part + 1)) ≡ other = omega arith in
            let up = ascends starts numbers s.parts.starting (other - (part + 1)) (part + 1) (omega (arith, gap, h)) in
            let same : slice_index starts (part + 1 + (other - (part + 1))) ≡ slice_index starts other =
            ap (slice_index starts) gap in
            piece_after numbers (slice_index starts other) (slice_index next other) at number
            (omega (arith, up, same, free.room)))
      ]

  -- the parts go on being filled
  pub filling_more : IsFilling starts (set next part (slice_index next part + 1))
      (set numbers (slice_index next part) number)
  filling_more = record {
    whole = length-set next part (at + 1) ∙ s.whole;
    parts = record {
      starting = record {
        some = s.parts.starting.some;
        ascending = s.parts.starting.ascending;
        inside = λ row h.
            (let old = s.parts.starting.inside row h in omega (arith, old, length-set numbers at number));
      };
      first = s.parts.first;
      last = s.parts.last ∙ sym (length-set numbers at number);
    };
    begun = λ other h. (elim (cases_eq other part) [
      | inl e ↦ (let here : slice_index further other ≡ at + 1 = ap (slice_index further) e ∙ further_here in
          let old = s.begun part free.there in
          let same : slice_index starts other ≡ slice_index starts part = ap (slice_index starts) e in
          omega (arith, here, old, same))
      | inr ne ↦ (let other_is = further_other other ne in let old = s.begun other h in omega (arith, other_is, old))
    ]);
    within = λ other h. (elim (cases_eq other part) [
      | inl e ↦ (let here : slice_index further other ≡ at + 1 = ap (slice_index further) e ∙ further_here in
          let same : slice_index starts (other + 1) ≡ slice_index starts (part + 1) =
          ap (λ (n : ℕ). slice_index starts (n + 1)) e in omega (arith, here, free.room, same))
      | inr ne ↦ (let other_is = further_other other ne in let old = s.within other h in omega (arith, other_is, old))
    ]);
  }

  -- the number is at the end of that list alone
  pub filling_pushed : IsPushed (lists_in starts next numbers) part number
      (lists_in starts (set next part (slice_index next part + 1)) (set numbers (slice_index next part) number))
  filling_pushed = record {
    whole = length-lists_in starts further more ∙ sym (length-lists_in starts next numbers);
    here = list_in starts further more part free.there ∙ filled_here
        ∙ ap (λ (l : List ℕ). l ++ number ∷ []) (sym (list_in starts next numbers part free.there));
    others = λ other ne. (elim (cases_lt (other + 1) (length starts)) [
      | inl lt ↦ list_in starts further more other lt ∙ filled_other other lt ne
          ∙ sym (list_in starts next numbers other lt)
      | inr le ↦ list_past starts further more other le ∙ sym (list_past starts next numbers other le)
    ]);
  }

-- ---- a number at the end of the lists in many parts

-- a part is once more among the first `index + 1` parts than among those before it
times_next : (parts : List ℕ) (index : ℕ) → index < length parts
    → times (take (index + 1) parts) (slice_index parts index) ≡ times (take index parts) (slice_index parts index) + 1
times_next parts index h = count_by_more_yes (λ (other : ℕ). eqb other (slice_index parts index)) parts index 0 h
    (eq-eqb (slice_index parts index) (slice_index parts index) refl)

-- before the first no part has more
pub further_none : (next parts : List ℕ) → AreFurther next (take 0 parts) next
further_none next parts = record { each = λ part h. omega arith }

-- there is room for the next
pub room_next : (starts old new parts : List ℕ) (index : ℕ) → index < length parts → length old ≡ length starts
    → HaveRoom starts old parts → AreFurther old (take index parts) new
    → HasRoom starts new (slice_index parts index)
room_next starts old new parts index h whole room s = record {
  there = room.there index 0 h;
  room = (let part = slice_index parts index in let there = room.there index 0 h in
      let free = room.each part there in let now = s.each part (omega (arith, whole, there)) in
      let more = times_next parts index h in
      let all : times (take (index + 1) parts) part ≤ times parts part =
      sum_by-take-le (λ (x : ℕ). cond (eqb x part) 1 0) parts (index + 1) in
      omega (arith, free, now, more, all));
}

-- the next has one more
pub further_more : (old new parts : List ℕ) (index : ℕ) → index < length parts
    → slice_index parts index < length old → length new ≡ length old → AreFurther old (take index parts) new
    → AreFurther old (take (index + 1) parts)
    (set new (slice_index parts index) (slice_index new (slice_index parts index) + 1))
further_more old new parts index h inside whole s = record {
  each = λ part low. (let at = slice_index parts index in elim (cases_eq part at) [
    | inl e ↦ (let now : slice_index (set new at (slice_index new at + 1)) part ≡ slice_index new at + 1 =
        ap (slice_index (set new at (slice_index new at + 1))) e
        ∙ get_or-set_same new at (slice_index new at + 1) 0 (omega (arith, whole, inside)) in
        let was = s.each at inside in let more = times_next parts index h in
        let same : slice_index old part ≡ slice_index old at = ap (slice_index old) e in
        let times_same : times (take (index + 1) parts) part ≡ times (take (index + 1) parts) at =
        ap (times (take (index + 1) parts)) e in
        omega (arith, now, was, more, same, times_same))
    | inr ne ↦ (let other = get_or-set_other new at part (slice_index new at + 1) 0 ne in
        let was = s.each part low in
        let none : times (take (index + 1) parts) part ≡ times (take index parts) part =
        count_by_more_no (λ (other : ℕ). eqb other part) parts index 0 h (ne_eqb at part (λ e. ne (sym e))) in
        omega (arith, other, was, none))
  ]);
}

-- after the last all have more
pub further_all : (old new parts : List ℕ) (index : ℕ) → length parts ≤ index → AreFurther old (take index parts) new
    → AreFurther old parts new
further_all old new parts index h s = subst (λ (l : List ℕ). AreFurther old l new) (take_all index parts h) s
