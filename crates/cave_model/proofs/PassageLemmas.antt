-- The neighbours that light can enter, and the one list in which those of all cells stand.
use Rattle.std.proofs.Common.{◌≡◌, ℕ, ◌+◌, ◌-◌, ◌*◌, ◌<◌, ◌≤◌, List, [], ◌∷◌, ◌++◌, length, get_or, take, drop}
use Rattle.std.proofs.Common.{slice_index, Contains, Option, Some, None, sym, ap, subst, ◌∙◌, arith, inl, inr}
use Rattle.std.proofs.Common.{append_assoc, length-append, length-drop}
use Rattle.std.proofs.Math.Seq.{drop-append_seam}
use Rattle.std.proofs.lemmas.Bool.{cases_lt}
use Rattle.std.proofs.lemmas.List.{drop-append-le, take-append-le, take_all, get_or_push}
use Rattle.std.proofs.lemmas.List.{get_or_append_left, get_or_past, length_push}
use Rattle.std.proofs.lemmas.List.Elements.{Contains-append_left, Contains-push, Contains-push_cases}
use Rattle.std.proofs.lemmas.List.FromFn.{get_or-map-range_with_len, length-map-range_with_len}
use Rattle.cave_base.specs.Box.{cell_count}
use Rattle.cave_model.specs.Cells.{neighbours_of}
use Rattle.cave_model.specs.Cave.{Cave}
use Rattle.cave_model.specs.Light.{entering_cost}
use Rattle.cave_model.specs.Parts.{part, parts, AreStarts, GoesOn}
use Rattle.cave_model.specs.Passages.{LeadsTo, passages_from, ArePassages}
use Rattle.cave_model.proofs.NeighbourLemmas.{listed_shares, index_of, index_below, listed_at}

-- ---- one neighbour after another

-- the cell `to` is one of the first `count` of these cells, and light can enter it
pub record IsAmong (cave : Cave) (near : List (Option ℕ)) (count to : ℕ) : Type 0 where
  pub index : ℕ
  pub early : index < count
  pub there : get_or near index None ≡ Some to
  pub passes : entering_cost cave to < 15

-- the list goes on with those of the first `count` of these cells that light can enter
pub record GoesOnBy (cave : Cave) (near : List (Option ℕ)) (count : ℕ) (old new : List ℕ) : Type 0 where
  pub more : List ℕ
  pub joined : new ≡ old ++ more
  pub few : length more ≤ count
  pub are_such : (to : ℕ) → Contains more to → IsAmong cave near count to
  pub all_such : (to : ℕ) → IsAmong cave near count to → Contains more to

-- one of the first is one of more
later : (cave : Cave) (near : List (Option ℕ)) (count to : ℕ) → IsAmong cave near count to
    → IsAmong cave near (count + 1) to
later cave near count to is =
    record { index = is.index; early = omega (arith, is.early); there = is.there; passes = is.passes }

-- one of more is the last or one of the first
last_or_earlier : {A : Type 0} (cave : Cave) (near : List (Option ℕ)) (count to : ℕ)
    → IsAmong cave near (count + 1) to
    → (IsAmong cave near count to → A) → (get_or near count None ≡ Some to → A) → A
last_or_earlier cave near count to is earlier last = elim (cases_lt is.index count) [
  | inl lt ↦ earlier (record { index = is.index; early = lt; there = is.there; passes = is.passes })
  | inr le ↦ (let same : count ≡ is.index = omega (arith, is.early) in
      last (ap (λ (k : ℕ). get_or near k None) same ∙ is.there))
]

-- the next is listed
pub goes_push : (cave : Cave) (near : List (Option ℕ)) (count to : ℕ) (old new : List ℕ)
    → GoesOnBy cave near count old new → get_or near count None ≡ Some to → entering_cost cave to < 15
    → GoesOnBy cave near (count + 1) old (new ++ to ∷ [])
goes_push cave near count to old new s here passes = record {
  more = s.more ++ to ∷ [];
  joined = ap (λ (l : List ℕ). l ++ to ∷ []) s.joined ∙ append_assoc old s.more (to ∷ []);
  few = omega (arith, length_push s.more to, s.few);
  are_such = λ other h. (elim (Contains-push_cases s.more to other h) [
    | inl before ↦ later cave near count other (s.are_such other before)
    | inr e ↦ subst (IsAmong cave near (count + 1)) e
        (record { index = count; early = omega arith; there = here; passes = passes })
  ]);
  all_such = λ other is. last_or_earlier cave near count other is
      (λ earlier. Contains-append_left s.more (to ∷ []) other (s.all_such other earlier))
      (λ last. let found : Some to ≡ Some other = sym here ∙ last in let same : to ≡ other = cc in
      subst (Contains (s.more ++ to ∷ [])) same (Contains-push s.more to));
}

-- the next is none, or one that light can't enter
pub goes_skip : (cave : Cave) (near : List (Option ℕ)) (count : ℕ) (old new : List ℕ)
    → GoesOnBy cave near count old new
    → ((to : ℕ) → get_or near count None ≡ Some to → entering_cost cave to < 15 → ⊥)
    → GoesOnBy cave near (count + 1) old new
goes_skip cave near count old new s none = record {
  more = s.more;
  joined = s.joined;
  few = omega (arith, s.few);
  are_such = λ to h. later cave near count to (s.are_such to h);
  all_such = λ to is. last_or_earlier cave near count to is (s.all_such to)
      (λ last. absurd (none to last is.passes));
}

-- after the last all are listed
pub goes_on : (cave : Cave) (cell : ℕ) (near : List (Option ℕ)) (count : ℕ) (old new : List ℕ)
    → near ≡ neighbours_of cave.size cell → cell < cell_count cave.size → count ≡ 6
    → GoesOnBy cave near count old new → GoesOn cave cell old new
goes_on cave cell near count old new whole inside six s = record {
  more = s.more;
  joined = s.joined;
  few = omega (arith, s.few);
  exact = λ to. (
    λ h. (let is = s.are_such to h in record {
      shared = listed_shares cave.size cell is.index to inside
          (ap (λ (l : List (Option ℕ)). get_or l is.index None) (sym whole) ∙ is.there);
      passes = is.passes;
    }),
    λ leads. s.all_such to (record {
      index = index_of leads.shared.face;
      early = omega (arith, index_below leads.shared.face);
      there = ap (λ (l : List (Option ℕ)). get_or l (index_of leads.shared.face) None) whole
          ∙ listed_at cave.size cell leads.shared.face ∙ leads.shared.there;
      passes = leads.passes;
    }),
  );
}

-- ---- rows one after another

-- a row of the parts
pub part_there : (starts cells : List ℕ) (row : ℕ) → row + 1 < length starts
    → passages_from (parts starts cells) row ≡ part starts cells row
part_there starts cells row h =
    get_or-map-range_with_len (part starts cells) 0 (length starts - 1) row row [] (omega arith) (omega arith)

-- past the last row there is none
pub part_past : (starts cells : List ℕ) (row : ℕ) → length starts ≤ row + 1
    → passages_from (parts starts cells) row ≡ []
part_past starts cells row h =
    let long = length-map-range_with_len (part starts cells) 0 (length starts - 1) in
    get_or_past (parts starts cells) row [] (omega (arith, long))

-- the rows of the first `count` cells
pub record ListsPassages (cave : Cave) (count : ℕ) (starts cells : List ℕ) : Type 0 where
  pub whole : length starts ≡ count + 1
  pub starting : AreStarts starts cells
  pub last : slice_index starts count ≡ length cells
  pub few : length cells ≤ 6 * count
  pub are_such : (cell to : ℕ) → cell < count → Contains (part starts cells cell) to → LeadsTo cave cell to
  pub all_such : (cell to : ℕ) → cell < count → LeadsTo cave cell to → Contains (part starts cells cell) to

-- a part of the front of a list
front_part : (cells more : List ℕ) (from to : ℕ) → from ≤ to → to ≤ length cells
    → take (to - from) (drop from (cells ++ more)) ≡ take (to - from) (drop from cells)
front_part cells more from to rise inside =
    ap (take (to - from)) (drop-append-le from cells more (omega arith))
    ∙ take-append-le (to - from) (drop from cells) more (omega (arith, length-drop from cells))

-- the part past the front
back_part : (cells more : List ℕ) (from to : ℕ) → from ≡ length cells → to ≡ length (cells ++ more)
    → take (to - from) (drop from (cells ++ more)) ≡ more
back_part cells more from to at end =
    ap (λ (n : ℕ). take (to - from) (drop n (cells ++ more))) at
    ∙ ap (take (to - from)) (drop-append_seam cells more)
    ∙ take_all (to - from) more (omega (arith, length-append cells more))

module _ (cave : Cave) (count : ℕ) (starts cells new : List ℕ) (s : ListsPassages cave count starts cells)
    (on : GoesOn cave count cells new) where
  -- the starts so far stay
  start_kept : (row : ℕ) → row ≤ count → slice_index (starts ++ length new ∷ []) row ≡ slice_index starts row
  start_kept row h = get_or_append_left starts (length new ∷ []) 0 row (omega (arith, s.whole))

  -- and the end is added
  start_new : slice_index (starts ++ length new ∷ []) (count + 1) ≡ length new
  start_new = get_or_push starts (length new) 0 (count + 1) s.whole

  -- the list grows
  grows : length new ≡ length cells + length on.more
  grows = ap length on.joined ∙ length-append cells on.more

  -- the rows so far stay
  part_kept : (row : ℕ) → row < count → part (starts ++ length new ∷ []) new row ≡ part starts cells row
  part_kept row h =
      let from = start_kept row (omega arith) in
      let to = start_kept (row + 1) (omega arith) in
      let rise = s.starting.ascending row (omega (arith, s.whole)) in
      let inside = s.starting.inside (row + 1) (omega (arith, s.whole)) in
      ap (λ (n : ℕ). take (slice_index (starts ++ length new ∷ []) (row + 1) - n) (drop n new)) from
      ∙ ap (λ (n : ℕ). take (n - slice_index starts row) (drop (slice_index starts row) new)) to
      ∙ ap (λ (l : List ℕ). take (slice_index starts (row + 1) - slice_index starts row)
      (drop (slice_index starts row) l)) on.joined
      ∙ front_part cells on.more (slice_index starts row) (slice_index starts (row + 1)) rise inside

  -- and the new row is what was added
  part_new : part (starts ++ length new ∷ []) new count ≡ on.more
  part_new =
      let from : slice_index (starts ++ length new ∷ []) count ≡ length cells =
      start_kept count (omega arith) ∙ s.last in
      ap (λ (l : List ℕ). take
      (slice_index (starts ++ length new ∷ []) (count + 1) - slice_index (starts ++ length new ∷ []) count)
      (drop (slice_index (starts ++ length new ∷ []) count) l)) on.joined
      ∙ back_part cells on.more (slice_index (starts ++ length new ∷ []) count)
      (slice_index (starts ++ length new ∷ []) (count + 1)) from
      (start_new ∙ ap length on.joined)

  -- the starts go on ascending
  starts_more : AreStarts (starts ++ length new ∷ []) new
  starts_more = record {
    some = omega (arith, length_push starts (length new));
    ascending = λ row h. (elim (cases_lt row count) [
      | inl lt ↦ (let from = start_kept row (omega arith) in let to = start_kept (row + 1) (omega arith) in
          let rise = s.starting.ascending row (omega (arith, s.whole)) in omega (arith, from, to, rise))
      | inr le ↦ (let same : count ≡ row = omega (arith, length_push starts (length new), s.whole) in
          subst (λ (n : ℕ). slice_index (starts ++ length new ∷ []) n ≤ slice_index (starts ++ length new ∷ []) (n + 1))
          same (let from = start_kept count (omega arith) in
          omega (arith, from, start_new, s.last, grows)))
    ]);
    inside = λ row h. (elim (cases_lt row (count + 1)) [
      | inl lt ↦ (let from = start_kept row (omega arith) in
          let old = s.starting.inside row (omega (arith, s.whole)) in omega (arith, from, old, grows))
      | inr le ↦ (let same : count + 1 ≡ row = omega (arith, length_push starts (length new), s.whole) in
          subst (λ (n : ℕ). slice_index (starts ++ length new ∷ []) n ≤ length new) same
          (omega (arith, start_new)))
    ]);
  }

  -- one more row
  pub lists_row : ListsPassages cave (count + 1) (starts ++ length new ∷ []) new
  lists_row = record {
    whole = length_push starts (length new) ∙ ap (λ (n : ℕ). n + 1) s.whole;
    starting = starts_more;
    last = start_new;
    few = omega (arith, grows, on.few, s.few);
    are_such = λ cell to h there. (elim (cases_lt cell count) [
      | inl lt ↦ s.are_such cell to lt (subst (λ (l : List ℕ). Contains l to) (part_kept cell lt) there)
      | inr le ↦ (let same : count ≡ cell = omega arith in
          subst (λ (n : ℕ). LeadsTo cave n to) same ((on.exact to).0
          (subst (λ (l : List ℕ). Contains l to) part_new
          (subst (λ (n : ℕ). Contains (part (starts ++ length new ∷ []) new n) to) (sym same) there))))
    ]);
    all_such = λ cell to h leads. (elim (cases_lt cell count) [
      | inl lt ↦ subst (λ (l : List ℕ). Contains l to) (sym (part_kept cell lt)) (s.all_such cell to lt leads)
      | inr le ↦ (let same : count ≡ cell = omega arith in
          subst (λ (n : ℕ). Contains (part (starts ++ length new ∷ []) new n) to) same
          (subst (λ (l : List ℕ). Contains l to) (sym part_new)
          ((on.exact to).1 (subst (λ (n : ℕ). LeadsTo cave n to) (sym same) leads))))
    ]);
  }

-- all rows
pub lists_rows : (cave : Cave) (count : ℕ) (starts cells : List ℕ) → count ≡ cell_count cave.size
    → ListsPassages cave count starts cells → ArePassages cave (parts starts cells)
lists_rows cave count starts cells all s = record {
  whole = length-map-range_with_len (part starts cells) 0 (length starts - 1) ∙ omega (arith, s.whole, all);
  exact = λ cell to. (
    λ there. (elim (cases_lt cell count) [
      | inl lt ↦ s.are_such cell to lt
          (subst (λ (l : List ℕ). Contains l to) (part_there starts cells cell (omega (arith, s.whole))) there)
      | inr le ↦ (let none : Contains [] to = subst (λ (l : List ℕ). Contains l to)
          (part_past starts cells cell (omega (arith, s.whole))) there in absurd (omega (arith, none.1)))
    ]),
    λ leads. (let lt : cell < count = omega (arith, leads.shared.inside, all) in
        subst (λ (l : List ℕ). Contains l to) (sym (part_there starts cells cell (omega (arith, s.whole))))
        (s.all_such cell to lt leads)),
  );
}
