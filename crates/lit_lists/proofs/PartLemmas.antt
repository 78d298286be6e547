-- Lists that stand in one list one after another.
use Rattle.std.proofs.Common.{◌≡◌, ℕ, ◌+◌, ◌-◌, ◌<◌, ◌≤◌, List, [], ◌∷◌, ◌++◌, length, take, drop}
use Rattle.std.proofs.Common.{slice_index, refl, sym, ap, subst, ◌∙◌, arith, inl, inr, length-append}
use Rattle.std.proofs.Common.{length-drop}
use Rattle.std.proofs.Math.Seq.{drop-append_seam}
use Rattle.std.proofs.lemmas.Bool.{cases_lt}
use Rattle.std.proofs.lemmas.List.{drop-append-le, take-append-le, take_all, get_or_push, get_or_append_left}
use Rattle.std.proofs.lemmas.List.{length_push, ext_get_or}
use Rattle.std.proofs.lemmas.List.FromFn.{length-map-range_with_len}
use Rattle.cave_model.specs.Parts.{part, parts}
use Rattle.cave_model.proofs.PassageLemmas.{part_there}
use Rattle.lit_lists.specs.Rows.{AreWhole}

-- there are as many lists as starts, less one
pub length-parts : (starts numbers : List ℕ) → length (parts starts numbers) ≡ length starts - 1
length-parts starts numbers = length-map-range_with_len (part starts numbers) 0 (length starts - 1)

-- before the first list nothing is there
pub whole_none : AreWhole (0 ∷ []) []
whole_none = record {
  starting = record {
    some = omega arith;
    ascending = λ row h. absurd (omega arith);
    inside = λ row h. (let first : row ≡ 0 = omega arith in
        subst (λ (n : ℕ). slice_index (0 ∷ []) n ≤ 0) (sym first) (omega arith));
  };
  first = refl;
  last = refl;
}

-- a part of the front of a list
front_part : (numbers more : List ℕ) (from to : ℕ) → from ≤ to → to ≤ length numbers
    → take (to - from) (drop from (numbers ++ more)) ≡ take (to - from) (drop from numbers)
front_part numbers more from to rise inside =
    ap (take (to - from)) (drop-append-le from numbers more (omega arith))
    ∙ take-append-le (to - from) (drop from numbers) more (omega (arith, length-drop from numbers))

-- the part past the front
back_part : (numbers more : List ℕ) (from to : ℕ) → from ≡ length numbers → to ≡ length (numbers ++ more)
    → take (to - from) (drop from (numbers ++ more)) ≡ more
back_part numbers more from to at end =
    ap (λ (n : ℕ). take (to - from) (drop n (numbers ++ more))) at
    ∙ ap (take (to - from)) (drop-append_seam numbers more)
    ∙ take_all (to - from) more (omega (arith, length-append numbers more))

-- one more list
module _ (starts numbers more : List ℕ) (s : AreWhole starts numbers) where
  abbrev next : List ℕ
  next = starts ++ length (numbers ++ more) ∷ []

  -- how many lists there were
  abbrev count : ℕ
  count = length starts - 1

  counted : length starts ≡ count + 1
  counted = let some = s.starting.some in omega arith

  start_kept : (row : ℕ) → row ≤ count → slice_index next row ≡ slice_index starts row
  start_kept row h = get_or_append_left starts (length (numbers ++ more) ∷ []) 0 row (omega (arith, counted))

  start_new : slice_index next (count + 1) ≡ length (numbers ++ more)
  start_new = get_or_push starts (length (numbers ++ more)) 0 (count + 1) counted

  long : length next ≡ count + 2
  long = length_push starts (length (numbers ++ more)) ∙ omega (arith, counted)

  grows : length (numbers ++ more) ≡ length numbers + length more
  grows = length-append numbers more

  part_kept : (row : ℕ) → row < count → part next (numbers ++ more) row ≡ part starts numbers row
  part_kept row h =
      let from = start_kept row (omega arith) in
      let to = start_kept (row + 1) (omega arith) in
      let rise = s.starting.ascending row (omega (arith, counted)) in
      let inside = s.starting.inside (row + 1) (omega (arith, counted)) in
      ap (λ (n : ℕ). take (slice_index next (row + 1) - n) (drop n (numbers ++ more))) from
      ∙ ap (λ (n : ℕ). take (n - slice_index starts row) (drop (slice_index starts row) (numbers ++ more))) to
      ∙ front_part numbers more (slice_index starts row) (slice_index starts (row + 1)) rise inside

  part_new : part next (numbers ++ more) count ≡ more
  part_new = back_part numbers more (slice_index next count) (slice_index next (count + 1))
      (start_kept count (omega arith) ∙ s.last) start_new

  pub whole_more : AreWhole (starts ++ length (numbers ++ more) ∷ []) (numbers ++ more)
  whole_more = record {
    starting = record {
      some = omega (arith, long);
      ascending = λ row h. (elim (cases_lt row count) [
        | inl lt ↦ (let from = start_kept row (omega arith) in let to = start_kept (row + 1) (omega arith) in
            let rise = s.starting.ascending row (omega (arith, counted)) in omega (arith, from, to, rise))
        | inr le ↦ (let same : count ≡ row = omega (arith, long) in
            subst (λ (n : ℕ). slice_index next n ≤ slice_index next (n + 1)) same
            (let from = start_kept count (omega arith) in omega (arith, from, start_new, s.last, grows)))
      ]);
      inside = λ row h. (elim (cases_lt row (count + 1)) [
        | inl lt ↦ (let from = start_kept row (omega arith) in
            let old = s.starting.inside row (omega (arith, counted)) in omega (arith, from, old, grows))
        | inr le ↦ (let same : count + 1 ≡ row = omega (arith, long) in
            subst (λ (n : ℕ). slice_index next n ≤ length (numbers ++ more)) same (omega (arith, start_new)))
      ]);
    };
    first = start_kept 0 (omega arith) ∙ s.first;
    last = ap (slice_index next) (omega (arith, long)) ∙ start_new;
  }

  pub parts_more : parts (starts ++ length (numbers ++ more) ∷ []) (numbers ++ more) ≡ parts starts numbers ++ more ∷ []
  parts_more =
      let old = length-parts starts numbers in
      let new = length-parts next (numbers ++ more) in
      let pushed = length_push (parts starts numbers) more in
      ext_get_or [] (parts next (numbers ++ more)) (parts starts numbers ++ more ∷ [])
      (omega (arith, old, new, pushed, long))
      (λ row h. elim (cases_lt row count) [
        | inl lt ↦ part_there next (numbers ++ more) row (omega (arith, long)) ∙ part_kept row lt
            ∙ sym (part_there starts numbers row (omega (arith, counted)))
            ∙ sym (get_or_append_left (parts starts numbers) (more ∷ []) [] row (omega (arith, old)))
        | inr le ↦ (let same : count ≡ row = omega (arith, new, long) in
            part_there next (numbers ++ more) row (omega (arith, new, long))
            ∙ ap (part next (numbers ++ more)) (sym same) ∙ part_new
            ∙ sym (get_or_push (parts starts numbers) more [] row (omega (arith, old, same))))
      ])
