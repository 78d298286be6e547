-- A relaxation's step: a cell passes its light on to its neighbours.
use Rattle.std.proofs.Common.{◌≡◌, ◌≢◌, ℕ, suc, zero, ◌+◌, ◌-◌, ◌<◌, ◌≤◌, List, [], ◌∷◌, ◌++◌, length, set}
use Rattle.std.proofs.Common.{slice_index, get_or, Option, Some, None, Contains, refl, sym, ap, subst, ◌∙◌, arith}
use Rattle.std.proofs.Common.{inl, inr, append_assoc, get_or-set_same, get_or-set_other}
use Rattle.std.proofs.lemmas.Bool.{cases_eq, cases_lt}
use Rattle.std.proofs.lemmas.Grind.{get_or_default_zero}
use Rattle.std.proofs.lemmas.List.{append-nil}
use Rattle.std.proofs.lemmas.List.Elements.{Contains-append_left, Contains-append_right, Contains-append_cases}
use Rattle.std.proofs.lemmas.List.Elements.{Contains-push, Contains-push_cases}
use Rattle.cave_base.specs.Box.{Point, cell_count}
use Rattle.cave_model.specs.Cells.{Face, west, east, north, south, below, above, beyond, neighbours_of, AreNeighbours}
use Rattle.cave_model.specs.Cave.{Cave}
use Rattle.cave_model.specs.Light.{Path, entering_cost}
use Rattle.cave_model.specs.Light.Path.{start, onward}
use Rattle.lit_lists.specs.Relaxing.{AreLow, AreWaysFrom, IsPassed, Spreads, Grows, PassesOn}

-- ---- paths

-- a path and one from its end are a path
path_onward : {cave : Cave} {a b c m n : ℕ} → Path cave a b m → Path cave b c n → Path cave a c (m + n)
path_onward {cave = cave} {a = a} {c = c} {m = m} p (start h) = subst (λ (k : ℕ). Path cave a c k) (omega arith) p
path_onward {cave = cave} {a = a} {c = c} {m = m} p (onward {before = b} {cost = k} q to n) =
    subst (λ (j : ℕ). Path cave a c j) (omega arith) (onward (path_onward p q) to n)

-- a path begins in the box
pub source_inside : {cave : Cave} {a c n : ℕ} → Path cave a c n → a < cell_count cave.size
source_inside (start h) = h
source_inside (onward p to n) = source_inside p

-- levels spread to themselves
pub spread_none : (cave : Cave) (levels : ℕ → ℕ) → Spreads cave levels levels
spread_none cave levels cell h p = (cell, (0, start h, omega arith))

-- levels that spread in two steps spread from the first
pub spread_on : (cave : Cave) (f g h : ℕ → ℕ) → Spreads cave f g → Spreads cave g h → Spreads cave f h
spread_on cave f g h first second cell inside lit =
    let near = second cell inside lit in
    let far = first near.0 (source_inside near.1.1) (omega (arith, near.1.2)) in
    (far.0, (far.1.0 + near.1.0, path_onward far.1.1 near.1.1, omega (arith, near.1.2, far.1.2)))

-- ---- how levels grow

-- no cell is in the empty list
none_in : {A : Type 0} (cell : ℕ) → Contains [] cell → A
none_in cell h = absurd (omega (arith, h.1))

-- where nothing is raised, nothing joins the queue
pub grows_none : (cave : Cave) (level : ℕ) (f : ℕ → ℕ) (queue : List ℕ) → Grows cave level f queue f queue
grows_none cave level f queue = record {
  more = [];
  parts = sym (append-nil queue);
  up = λ cell. omega arith;
  spreads = spread_none cave f;
  changed = λ cell. inl refl;
  raised = λ cell h. none_in cell h;
}

-- growing twice is growing once
pub grows_on : (cave : Cave) (level : ℕ) (f g h : ℕ → ℕ) (a b c : List ℕ) → Grows cave level f a g b
    → Grows cave level g b h c → Grows cave level f a h c
grows_on cave level f g h a b c x y = record {
  more = x.more ++ y.more;
  parts = y.parts ∙ ap (λ (l : List ℕ). l ++ y.more) x.parts ∙ append_assoc a x.more y.more;
  up = λ cell. (let p = x.up cell in let q = y.up cell in omega arith);
  spreads = spread_on cave f g h x.spreads y.spreads;
  changed = λ cell. (elim (y.changed cell) [
    | inl e ↦ elim (x.changed cell) [
      | inl d ↦ inl (e ∙ d)
      | inr m ↦ inr (Contains-append_left x.more y.more cell m)
    ]
    | inr m ↦ inr (Contains-append_right x.more y.more cell m)
  ]);
  raised = λ cell m. (elim (Contains-append_cases x.more y.more cell m) [
    | inl k ↦ elim (y.changed cell) [
      | inl e ↦ (let r = x.raised cell k in (r.0, (let lt = r.1 in omega arith)))
      | inr n ↦ y.raised cell n
    ]
    | inr n ↦ y.raised cell n
  ]);
}

-- the cell that passes its light on keeps its level
pub from_kept : (cave : Cave) (f g : ℕ → ℕ) (from : ℕ) (a b : List ℕ) → Grows cave (f from) f a g b → g from ≡ f from
from_kept cave f g from a b x = elim (x.changed from) [
  | inl e ↦ e
  | inr m ↦ (let lt = (x.raised from m).1 in let up = x.up from in absurd (omega arith))
]

-- and no level comes above the highest
pub grows_low : (cave : Cave) (f g : ℕ → ℕ) (from : ℕ) (a b : List ℕ) → AreLow f → Grows cave (f from) f a g b
    → AreLow g
grows_low cave f g from a b low x = record {
  each = λ cell. (elim (x.changed cell) [
    | inl e ↦ (let l = low.each cell in omega arith)
    | inr m ↦ (let lt = (x.raised cell m).1 in let l = low.each from in omega arith)
  ]);
}

-- entering a cell costs at least one
pub entering_pos : (cave : Cave) (cell : ℕ) → 0 < entering_cost cave cell
entering_pos cave cell = omega arith

-- a level of at most one raises no neighbour
pub passes_none : (cave : Cave) (f : ℕ → ℕ) (from : ℕ) (queue : List ℕ) → f from ≤ 1
    → PassesOn cave from f queue f queue
passes_none cave f from queue low = record {
  grows = grows_none cave (f from) f queue;
  passed = record { each = λ cell shared. (let p = entering_pos cave cell in omega arith) };
}

-- one neighbour is raised
pub grows_raised : (cave : Cave) (levels queue : List ℕ) (from to brought : ℕ) → AreNeighbours cave.size from to
    → to < cell_count cave.size → to < length levels
    → brought ≡ slice_index levels from - entering_cost cave to → slice_index levels to < brought
    → Grows cave (slice_index levels from) (slice_index levels) queue (slice_index (set levels to brought))
    (queue ++ to ∷ [])
grows_raised cave levels queue from to brought shared inside long is lt = record {
  more = to ∷ [];
  parts = refl;
  up = λ cell. (elim (cases_eq cell to) [
    | inl e ↦ (let h = here cell e in let s : slice_index levels cell ≡ slice_index levels to =
        ap (slice_index levels) e in omega arith)
    | inr ne ↦ (let o = other cell ne in omega arith)
  ]);
  spreads = λ cell within lit. (elim (cases_eq cell to) [
    | inl e ↦ (let h = here cell e in
        let path : Path cave from cell (0 + entering_cost cave to) =
        subst (λ (c : ℕ). Path cave from c (0 + entering_cost cave to)) (sym e)
        (onward (start shared.inside) to shared) in
        (from, (0 + entering_cost cave to, path, omega arith)))
    | inr ne ↦ (let o = other cell ne in (cell, (0, start within, omega arith)))
  ]);
  changed = λ cell. (elim (cases_eq cell to) [
    | inl e ↦ inr (subst (Contains (to ∷ [])) (sym e) (Contains-push [] to))
    | inr ne ↦ inl (other cell ne)
  ]);
  raised = λ cell m. (elim (Contains-push_cases [] to cell m) [
    | inl none ↦ none_in cell none
    | inr e ↦ (let h = here cell (sym e) in let p = entering_pos cave to in
        (subst (λ (c : ℕ). c < cell_count cave.size) e inside, omega arith))
  ]);
} where
  here : (cell : ℕ) → cell ≡ to → slice_index (set levels to brought) cell ≡ brought
  here cell e = ap (slice_index (set levels to brought)) e ∙ get_or-set_same levels to brought 0 long

  other : (cell : ℕ) → cell ≢ to → slice_index (set levels to brought) cell ≡ slice_index levels cell
  other cell ne = get_or-set_other levels to cell brought 0 ne

-- ---- all neighbours

-- a neighbour that is listed lies beyond a face
face_at : (size : Point) (from j to : ℕ) → get_or (neighbours_of size from) j None ≡ Some to
    → (face : Face) × (beyond size face from ≡ Some to)
face_at size from zero to e = (west, e)
face_at size from (suc zero) to e = (east, e)
face_at size from (suc (suc zero)) to e = (north, e)
face_at size from (suc (suc (suc zero))) to e = (south, e)
face_at size from (suc (suc (suc (suc zero)))) to e = (below, e)
face_at size from (suc (suc (suc (suc (suc zero))))) to e = (above, e)
face_at size from (suc (suc (suc (suc (suc (suc j)))))) to e = absurd cc

-- a neighbour that is listed shares a face
pub listed_shares : (size : Point) (from j to : ℕ) → from < cell_count size
    → get_or (neighbours_of size from) j None ≡ Some to → AreNeighbours size from to
listed_shares size from j to h e = let f = face_at size from j to e in record { inside = h; face = f.0; there = f.1 }

-- the number of a face in the list of neighbours
index_of : Face → ℕ
index_of west = 0
index_of east = 1
index_of north = 2
index_of south = 3
index_of below = 4
index_of above = 5

-- there are six
index_below : (face : Face) → index_of face < 6
unfolding index_of
index_below west = omega arith
index_below east = omega arith
index_below north = omega arith
index_below south = omega arith
index_below below = omega arith
index_below above = omega arith

-- at the number of a face stands the cell beyond it
listed_at : (size : Point) (from : ℕ) (face : Face)
    → get_or (neighbours_of size from) (index_of face) None ≡ beyond size face from
unfolding index_of
listed_at size from west = refl
listed_at size from east = refl
listed_at size from north = refl
listed_at size from south = refl
listed_at size from below = refl
listed_at size from above = refl

-- the neighbours before this index have been offered light
pub record PassingOn (cave : Cave) (from : ℕ) (f : ℕ → ℕ) (queue : List ℕ) (g : ℕ → ℕ) (next : List ℕ)
    (around : List (Option ℕ)) (index : ℕ) : Type 0 where
  pub whole : around ≡ neighbours_of cave.size from
  pub grows : Grows cave (f from) f queue g next
  pub offered : (j to : ℕ) → j < index → get_or around j None ≡ Some to → IsPassed cave g from to

-- before the first neighbour nothing has grown
pub passing_start : (cave : Cave) (from : ℕ) (f : ℕ → ℕ) (queue : List ℕ) (around : List (Option ℕ))
    → around ≡ neighbours_of cave.size from → PassingOn cave from f queue f queue around 0
passing_start cave from f queue around whole =
    record { whole = whole; grows = grows_none cave (f from) f queue; offered = λ j to h e. absurd (omega arith) }

-- a neighbour that is there has the light passed on to it
pub passing_some : (cave : Cave) (from to : ℕ) (f g h : ℕ → ℕ) (a b c : List ℕ) (around : List (Option ℕ)) (index : ℕ)
    → PassingOn cave from f a g b around index
    → get_or around index None ≡ Some to → Grows cave (g from) g b h c → IsPassed cave h from to
    → PassingOn cave from f a h c around (index + 1)
passing_some cave from to f g h a b c around index s here grows passed =
    let kept = from_kept cave f g from a b s.grows in
    let grows_here : Grows cave (f from) g b h c = subst (λ (level : ℕ). Grows cave level g b h c) kept grows in
    let still = from_kept cave g h from b c grows in
    record {
      whole = s.whole;
      grows = grows_on cave (f from) f g h a b c s.grows grows_here;
      offered = λ j other lt e. (elim (cases_lt j index) [
        | inl lt ↦ (let old = s.offered j other lt e in let up = grows.up other in omega arith)
        | inr le ↦ (let now : j ≡ index = omega arith in
            let found : Some other ≡ Some to = sym e ∙ ap (λ (k : ℕ). get_or around k None) now ∙ here in
            let same : to ≡ other = cc in subst (IsPassed cave h from) same passed)
      ]);
    }

-- a neighbour outside the box is left out
pub passing_none : (cave : Cave) (from : ℕ) (f g : ℕ → ℕ) (a b : List ℕ) (around : List (Option ℕ)) (index : ℕ)
    → PassingOn cave from f a g b around index → get_or around index None ≡ None
    → PassingOn cave from f a g b around (index + 1)
passing_none cave from f g a b around index s here = record {
  whole = s.whole;
  grows = s.grows;
  offered = λ j other h e. (elim (cases_lt j index) [
    | inl lt ↦ s.offered j other lt e
    | inr le ↦ (let now : j ≡ index = omega arith in
        let found : Some other ≡ None = sym e ∙ ap (λ (k : ℕ). get_or around k None) now ∙ here in absurd cc)
  ]);
}

-- after the sixth the cell has passed its light to all its neighbours
pub passing_end : (cave : Cave) (from : ℕ) (f g : ℕ → ℕ) (a b : List ℕ) (around : List (Option ℕ)) (index : ℕ)
    → 6 ≤ index → PassingOn cave from f a g b around index → PassesOn cave from f a g b
passing_end cave from f g a b around index all s = record {
  grows = s.grows;
  passed = record {
    each = λ to shared.
        (let low = index_below shared.face in
        let there : get_or around (index_of shared.face) None ≡ Some to =
        ap (λ (l : List (Option ℕ)). get_or l (index_of shared.face) None) s.whole
        ∙ listed_at cave.size from shared.face ∙ shared.there in
        s.offered (index_of shared.face) to (omega arith) there);
  };
}

-- ---- the neighbours that light can enter

-- the first `index` of them have been offered light
pub record ListedOn (cave : Cave) (from : ℕ) (f : ℕ → ℕ) (queue : List ℕ) (g : ℕ → ℕ) (next : List ℕ)
    (around : List ℕ) (index : ℕ) : Type 0 where
  pub grows : Grows cave (f from) f queue g next
  pub offered : (j : ℕ) → j < index → IsPassed cave g from (slice_index around j)

-- before the first nothing has grown
pub listed_start : (cave : Cave) (from : ℕ) (f : ℕ → ℕ) (queue around : List ℕ)
    → ListedOn cave from f queue f queue around 0
listed_start cave from f queue around =
    record { grows = grows_none cave (f from) f queue; offered = λ j h. absurd (omega arith) }

-- the next has the light passed on to it
pub listed_next : (cave : Cave) (from : ℕ) (f g h : ℕ → ℕ) (a b c around : List ℕ) (index : ℕ)
    → ListedOn cave from f a g b around index → Grows cave (g from) g b h c
    → IsPassed cave h from (slice_index around index) → ListedOn cave from f a h c around (index + 1)
listed_next cave from f g h a b c around index s grows passed =
    let kept = from_kept cave f g from a b s.grows in
    let grows_here : Grows cave (f from) g b h c = subst (λ (level : ℕ). Grows cave level g b h c) kept grows in
    let still = from_kept cave g h from b c grows in
    record {
      grows = grows_on cave (f from) f g h a b c s.grows grows_here;
      offered = λ j lt. (elim (cases_lt j index) [
        | inl lt ↦ (let old = s.offered j lt in let up = grows.up (slice_index around j) in omega arith)
        | inr le ↦ subst (λ (k : ℕ). IsPassed cave h from (slice_index around k)) (omega arith) passed
      ]);
    }

-- after the last the cell has passed its light to all its neighbours: of what is at most 15 nothing enters the others
pub listed_end : (cave : Cave) (from : ℕ) (f g : ℕ → ℕ) (a b around : List ℕ) (index : ℕ) → f from ≤ 15
    → AreWaysFrom cave from around → length around ≤ index → ListedOn cave from f a g b around index
    → PassesOn cave from f a g b
listed_end cave from f g a b around index low ways all s = record {
  grows = s.grows;
  passed = record {
    each = λ to shared. (elim (cases_lt (entering_cost cave to) 15) [
      | inl lt ↦ (let has = (ways.exact to).1 (record { shared = shared; passes = lt }) in
          let at : slice_index around has.0 ≡ to = sym (get_or_default_zero around has.0 to has.1) ∙ has.2 in
          subst (IsPassed cave g from) at (s.offered has.0 (omega (arith, has.1))))
      | inr le ↦ (let kept = from_kept cave f g from a b s.grows in omega arith)
    ]);
  };
}
