-- Lists of cells of some kind, and lists that have more at their ends.
use Rattle.std.proofs.Common.{◌≡◌, ◌↔◌, ℕ, ◌+◌, ◌-◌, ◌<◌, ◌≤◌, List, [], ◌++◌, length, slice_index}
use Rattle.std.proofs.Common.{sym, ap, subst, ◌∙◌, arith, inl, inr, length-append}
use Rattle.std.proofs.lemmas.Bool.{cases_lt}
use Rattle.std.proofs.lemmas.List.{append-nil, get_or_append_left}
use Rattle.std.proofs.Math.Seq.{get_or-append_right}
use Rattle.std.proofs.lemmas.List.Elements.{Contains-get_or, Contains-append_cases, Contains-append_left}
use Rattle.std.proofs.lemmas.List.Elements.{Contains-append_right}
use Rattle.cave_model.proofs.ListingLemmas.{ListsBelow}
use Rattle.set_cover.proofs.ListLemmas.{none_in}
use Rattle.cave_problem.specs.Storing.{HasMore}

-- ---- lists up to a number

-- of a kind with none below this number, nothing is listed
pub lists_start : (kind : ℕ → Type 0) (from : ℕ) → ((cell : ℕ) → cell < from → ¬ kind cell) → ListsBelow kind from []
lists_start kind from none = record {
  ascending = λ k h. absurd (omega arith);
  below = λ k h. absurd (omega arith);
  are_such = λ cell h. none_in cell h;
  all_such = λ cell lt is. absurd (none cell lt is);
}

-- cells of another kind are left out
pub lists_pass : (kind : ℕ → Type 0) (from to : ℕ) (cells : List ℕ) → from ≤ to
    → ((cell : ℕ) → from ≤ cell → cell < to → ¬ kind cell) → ListsBelow kind from cells → ListsBelow kind to cells
lists_pass kind from to cells le none s = record {
  ascending = s.ascending;
  below = λ k h. omega (arith, s.below k h);
  are_such = λ cell h. (let b = s.are_such cell h in (omega (arith, b.0), b.1));
  all_such = λ cell lt is. elim (cases_lt cell from) [
    | inl before ↦ s.all_such cell before is
    | inr after ↦ absurd (none cell after lt is)
  ];
}

-- ---- more at the end

-- a list of one kind is one of another where the kinds agree
pub more_as : (kind other : ℕ → Type 0) (old new : List ℕ) → ((cell : ℕ) → kind cell ↔ other cell)
    → HasMore kind old new → HasMore other old new
more_as kind other old new same s = record {
  tail = s.tail;
  parts = s.parts;
  listed = record {
    ascending = s.listed.ascending;
    exact = λ cell. (
      λ h. (same cell).0 ((s.listed.exact cell).0 h),
      λ is. (s.listed.exact cell).1 ((same cell).1 is),
    );
  };
}

-- where there is none of a kind the list has none more
pub more_none : (kind : ℕ → Type 0) (old new : List ℕ) → new ≡ old → ((cell : ℕ) → ¬ kind cell) → HasMore kind old new
more_none kind old new same none = record {
  tail = [];
  parts = same ∙ sym (append-nil old);
  listed = record {
    ascending = λ k h. absurd (omega arith);
    exact = λ cell. (λ h. none_in cell h, λ is. absurd (none cell is));
  };
}

-- the kind's cells from the one number to the other go to the end
pub lists_more : (kind more : ℕ → Type 0) (from to : ℕ) (old new : List ℕ) → from ≤ to
    → ((cell : ℕ) → more cell ↔ ((from ≤ cell) × (cell < to) × kind cell)) → ListsBelow kind from old
    → HasMore more old new → ListsBelow kind to new
lists_more kind more from to old new le same s has =
    subst (ListsBelow kind to) (sym has.parts) (record {
      ascending = λ k h. elim (cases_lt (k + 1) (length old)) [
        | inl lt ↦ omega (arith, left k (omega arith), left (k + 1) lt, s.ascending k lt)
        | inr past ↦ elim (cases_lt k (length old)) [
          | inl last ↦ omega (
            arith,
            left k last,
            s.below k last,
            right (k + 1) past,
            (tail_such (k + 1 - length old) (omega (arith, h, long))).0,
          )
          | inr after ↦ (let next : k - length old + 1 ≡ k + 1 - length old = omega arith in
              let up = has.listed.ascending (k - length old) (omega (arith, h, long)) in
              omega (arith, right k after, right (k + 1) past, ap (slice_index has.tail) next, up))
        ]
      ];
      below = λ k h. elim (cases_lt k (length old)) [
        | inl lt ↦ omega (arith, left k lt, s.below k lt)
        | inr past ↦ omega (arith, right k past, (tail_such (k - length old) (omega (arith, h, long))).1)
      ];
      are_such = λ cell h. elim (Contains-append_cases old has.tail cell h) [
        | inl before ↦ (let b = s.are_such cell before in (omega (arith, b.0), b.1))
        | inr after ↦ (let b = (same cell).0 ((has.listed.exact cell).0 after) in (b.1, b.2))
      ];
      all_such = λ cell lt is. elim (cases_lt cell from) [
        | inl before ↦ Contains-append_left old has.tail cell (s.all_such cell before is)
        | inr after ↦ Contains-append_right old has.tail cell
            ((has.listed.exact cell).1 ((same cell).1 (after, lt, is)))
      ];
    })
  where
    long : length (old ++ has.tail) ≡ length old + length has.tail
    long = length-append old has.tail

    left : (k : ℕ) → k < length old → slice_index (old ++ has.tail) k ≡ slice_index old k
    left k h = get_or_append_left old has.tail 0 k h

    right : (k : ℕ) → length old ≤ k → slice_index (old ++ has.tail) k ≡ slice_index has.tail (k - length old)
    right k h = get_or-append_right old has.tail k 0 h

    tail_such : (k : ℕ) → k < length has.tail
        → (from ≤ slice_index has.tail k) × (slice_index has.tail k < to) × kind (slice_index has.tail k)
    tail_such k h = (same (slice_index has.tail k)).0
        ((has.listed.exact (slice_index has.tail k)).0 (Contains-get_or has.tail k 0 h))
