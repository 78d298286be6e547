-- Rounds of relaxation, from one cell to the whole.
use Rattle.std.proofs.Common.{◌≡◌, ◌≢◌, ℕ, ◌+◌, ◌-◌, ◌<◌, ◌≤◌, ◌⊎◌, List, ◌++◌, length, slice_index, get_or, Contains}
use Rattle.std.proofs.Common.{refl, sym, ap, subst, ◌∙◌, arith, inl, inr, length-append}
use Rattle.std.proofs.lemmas.Bool.{cases_eq, cases_lt}
use Rattle.std.proofs.lemmas.Grind.{get_or_default_zero}
use Rattle.std.proofs.lemmas.List.{get_or_append_left, get_or-append-add, get_or-append_right}
use Rattle.std.proofs.lemmas.List.Elements.{Contains-append_left, Contains-append_right, Contains-append_cases}
use Rattle.cave_base.specs.Box.{cell_count}
use Rattle.cave_model.specs.Cells.{AreNeighbours}
use Rattle.cave_model.specs.Cave.{Cave}
use Rattle.lit_lists.specs.Relaxing.{AreLow, IsPassed, HasPassed, Grows, Queued, IsSeeded, Relaxing, Relaxes}
use Rattle.lit_lists.specs.Relaxing.{IsSettled}
use Rattle.lit_lists.proofs.RelaxLemmas.{entering_pos, grows_low, spread_none, spread_on}

-- ---- one cell of a round

-- what stands at an index is an element
pub element_of : (cells : List ℕ) (k : ℕ) → k < length cells → Contains cells (slice_index cells k)
element_of cells k h = (k, h, get_or_default_zero cells k (get_or cells k 0) h)

-- where a cell of the queue stands after it grew
stands : (queue more : List ℕ) (k : ℕ) → k < length (queue ++ more)
    → ((k < length queue) × (slice_index (queue ++ more) k ≡ slice_index queue k))
    ⊎ ((length queue ≤ k) × Contains more (slice_index (queue ++ more) k))
stands queue more k h = elim (cases_lt k (length queue)) [
  | inl lt ↦ inl (lt, get_or_append_left queue more 0 k lt)
  | inr le ↦ (let inside : k - length queue < length more = omega (arith, length-append queue more) in
      let e : k ≡ length queue + (k - length queue) = omega arith in
      let at : slice_index (queue ++ more) k ≡ slice_index more (k - length queue) = get_or-append_right queue more
      (length queue) k 0 refl le in
      inr (le, subst (Contains more) (sym at) (element_of more (k - length queue) inside)))
]

module _ (cave : Cave) (begun f g : ℕ → ℕ) (a b : List ℕ) (index end level from : ℕ)
    (s : Relaxing cave begun f a index end level) (h : index < length a) (is : slice_index a index ≡ from)
    (x : Grows cave (f from) f a g b) (p : HasPassed cave g from) where
  top : f from ≤ level
  top = let l = s.low index (omega arith) h in let e : f (slice_index a index) ≡ f from = ap f is in omega arith

  stands_now : (k : ℕ) → k < length b
      → ((k < length a) × (slice_index b k ≡ slice_index a k)) ⊎ ((length a ≤ k) × Contains x.more (slice_index b k))
  stands_now k lt = subst (λ (l : List ℕ). k < length l → ((k < length a) × (slice_index l k ≡ slice_index a k))
      ⊎ ((length a ≤ k) × Contains x.more (slice_index l k))) (sym x.parts) (stands a x.more k) lt

  -- a cell that was raised has a level below that of the round
  below_level : (cell : ℕ) → Contains x.more cell → g cell < level
  below_level cell m = let r = (x.raised cell m).1 in omega (arith, top)

  long : length b ≡ length a + length x.more
  long = ap length x.parts ∙ length-append a x.more

  same_from : (k before : ℕ) → k ≡ index → slice_index a k ≡ before → from ≡ before
  same_from k before now at = sym is ∙ ap (slice_index a) (sym now) ∙ at

  later : (k : ℕ) → index ≤ k → k ≢ index → index + 1 ≤ k
  later k le ne = elim (cases_lt index k) [ inl lt ↦ omega arith | inr ge ↦ absurd (ne (omega arith)) ]

  -- a cell that was raised stands after those that were there
  added : (cell : ℕ) → Contains x.more cell → (k : ℕ) × (index + 1 ≤ k) × (k < length b) × (slice_index b k ≡ cell)
  added cell m = (
    length a + m.0,
    omega arith,
    omega (arith, m.1, long),
    ap (λ (l : List ℕ). slice_index l (length a + m.0)) x.parts ∙ get_or-append-add a x.more m.0 0
        ∙ sym (get_or_default_zero x.more m.0 cell m.1) ∙ m.2,
  )

  kept : (k : ℕ) → k < length a → slice_index b k ≡ slice_index a k
  kept k lt = ap (λ (l : List ℕ). slice_index l k) x.parts ∙ get_or_append_left a x.more 0 k lt

  waits_now : (before cell : ℕ) → AreNeighbours cave.size before cell
      → IsPassed cave g before cell ⊎ ((k : ℕ) × (index + 1 ≤ k) × (k < length b) × (slice_index b k ≡ before))
  waits_now before cell shared = elim (x.changed before) [
    | inl e ↦ elim (s.waits before cell shared) [
      | inl old ↦ inl (let up = x.up cell in omega arith)
      | inr w ↦ elim (cases_eq w.0 index) [
        | inl now ↦ (let same = same_from w.0 before now w.3 in
            inl (subst (λ (c : ℕ). IsPassed cave g c cell) same
            (p.each cell (subst (λ (c : ℕ). AreNeighbours cave.size c cell) (sym same) shared))))
        | inr ne ↦ inr (w.0, later w.0 w.1 ne, omega (arith, w.2, long), kept w.0 w.2 ∙ w.3)
      ]
    ]
    | inr m ↦ inr (added before m)
  ]

  -- what stands somewhere has the level it had, or one below that of the round
  level_at : (k : ℕ) → k < length b
      → ((k < length a) × (g (slice_index b k) ≡ f (slice_index a k))) ⊎ (g (slice_index b k) < level)
  level_at k lt = elim (stands_now k lt) [
    | inl old ↦ elim (x.changed (slice_index b k)) [
      | inl e ↦ inl (old.0, e ∙ ap f old.1)
      | inr m ↦ inr (below_level (slice_index b k) m)
    ]
    | inr new ↦ inr (below_level (slice_index b k) new.1)
  ]

  -- the next cell of the queue is done
  pub relaxing_next : Relaxing cave begun g b (index + 1) end level
  relaxing_next = record {
    up = λ cell. (let u = s.up cell in let v = x.up cell in omega arith);
    spreads = spread_on cave begun f g s.spreads x.spreads;
    queued = record {
      lit = λ cell lit. (elim (x.changed cell) [
        | inl e ↦ subst (λ (l : List ℕ). Contains l cell) (sym x.parts)
            (Contains-append_left a x.more cell (s.queued.lit cell (omega arith)))
        | inr m ↦ subst (λ (l : List ℕ). Contains l cell) (sym x.parts) (Contains-append_right a x.more cell m)
      ]);
      inside = λ cell has. inside_now cell
          (Contains-append_cases a x.more cell (subst (λ (l : List ℕ). Contains l cell) x.parts has));
    };
    waits = waits_now;
    low = λ k le lt. (elim (level_at k lt) [
      | inl old ↦ (let l = s.low k (omega arith) old.0 in let e = old.1 in omega arith)
      | inr new ↦ omega arith
    ]);
    fresh = λ k le lt. (elim (level_at k lt) [
      | inl old ↦ (let l = s.fresh k le old.0 in let e = old.1 in omega arith)
      | inr new ↦ new
    ]);
  } where
    inside_now : (cell : ℕ) → Contains a cell ⊎ Contains x.more cell → cell < cell_count cave.size
    inside_now cell (inl old) = s.queued.inside cell old
    inside_now cell (inr m) = (x.raised cell m).0

-- ---- a round

pub record Going (cave : Cave) (old : ℕ → ℕ) (queue : List ℕ) (begin end : ℕ) (new : ℕ → ℕ) (next : List ℕ)
    (index : ℕ) : Type 0 where
  pub within : end ≤ length next
  pub began : end ≡ length queue
  pub inside : (cell : ℕ) → Contains next cell → cell < cell_count cave.size
  pub low : AreLow new
  pub each : (begun : ℕ → ℕ) (level : ℕ) → Relaxing cave begun old queue begin end level
      → Relaxing cave begun new next index end level

-- the next cell of the round has passed its light on
pub going_next : (cave : Cave) (o f g : ℕ → ℕ) (queue a b : List ℕ) (begin end index from : ℕ)
    → Going cave o queue begin end f a index → index < end → slice_index a index ≡ from → Grows cave (f from) f a g b
    → HasPassed cave g from → Going cave o queue begin end g b (index + 1)
going_next cave o f g queue a b begin end index from s lt is x p = record {
  within = omega (arith, s.within, ap length x.parts, length-append a x.more);
  began = s.began;
  inside = λ cell has. inside_now cell
      (Contains-append_cases a x.more cell (subst (λ (l : List ℕ). Contains l cell) x.parts has));
  low = grows_low cave f g from a b s.low x;
  each = λ begun level r. relaxing_next cave begun f g a b index end level from (s.each begun level r)
      (omega (arith, s.within)) is x p;
} where
  inside_now : (cell : ℕ) → Contains a cell ⊎ Contains x.more cell → cell < cell_count cave.size
  inside_now cell (inl old) = s.inside cell old
  inside_now cell (inr m) = (x.raised cell m).0

-- the cells of a round lie in the box
pub going_inside : (cave : Cave) (o f : ℕ → ℕ) (queue a : List ℕ) (begin end index : ℕ)
    → Going cave o queue begin end f a index → index < end → slice_index a index < cell_count cave.size
going_inside cave o f queue a begin end index s lt = s.inside (slice_index a index)
    (element_of a index (omega (arith, s.within)))

-- with a round at its end, those that wait are one level lower
lower : (cave : Cave) (begun f : ℕ → ℕ) (a : List ℕ) (index end level : ℕ) → end ≤ index
    → Relaxing cave begun f a index end level → Relaxing cave begun f a index (length a) (level - 1)
lower cave begun f a index end level le s = record {
  up = s.up;
  spreads = s.spreads;
  queued = s.queued;
  waits = s.waits;
  low = λ k from lt. (let l = s.fresh k (omega arith) lt in omega arith);
  fresh = λ k from lt. absurd (omega arith);
}

-- a round at its end takes the relaxation on
pub going_end : (cave : Cave) (o f : ℕ → ℕ) (queue a : List ℕ) (begin end index : ℕ)
    → Going cave o queue begin end f a index → end ≤ index → index ≡ end → Relaxes cave o queue begin f a end
going_end cave o f queue a begin end index s le at = record {
  each = λ begun level r.
      let r' = subst (λ (n : ℕ). Relaxing cave begun o queue begin n level) (sym s.began) r in
      subst (λ (n : ℕ). Relaxing cave begun f a n (length a) (level - 1)) at
      (lower cave begun f a index end level le (s.each begun level r'));
}

-- ---- all rounds

pub record Rounds (cave : Cave) (begun levels : ℕ → ℕ) (queue : List ℕ) (begin level : ℕ) : Type 0 where
  pub queued : Queued cave begin queue
  pub low : AreLow levels
  pub relaxing : Relaxing cave begun levels queue begin (length queue) level

-- before the first round the levels are those seeded
pub rounds_start : (cave : Cave) (levels : ℕ → ℕ) (queue : List ℕ) → IsSeeded cave levels queue
    → Rounds cave levels levels queue 0 15
rounds_start cave levels queue k = record {
  queued = record { within = omega arith; inside = k.queued.inside };
  low = record { each = k.low };
  relaxing = record {
    up = λ cell. omega arith;
    spreads = spread_none cave levels;
    queued = k.queued;
    waits = λ before cell shared. (elim (cases_lt 0 (levels before)) [
      | inl lt ↦ (let has = k.queued.lit before lt in
          inr (has.0, omega arith, has.1, sym (get_or_default_zero queue has.0 before has.1) ∙ has.2))
      | inr le ↦ inl (omega arith)
    ]);
    low = λ index le lt. k.low (slice_index queue index);
    fresh = λ index le lt. absurd (omega arith);
  };
}

-- a round more is done at one level less
pub rounds_next : (cave : Cave) (begun f g : ℕ → ℕ) (a b : List ℕ) (begin end level less : ℕ)
    → Rounds cave begun f a begin level → Relaxes cave f a begin g b end → Queued cave end b → AreLow g
    → less ≡ level - 1 → Rounds cave begun g b end less
rounds_next cave begun f g a b begin end level less s r q low e = record {
  queued = q;
  low = low;
  relaxing = subst (λ (n : ℕ). Relaxing cave begun g b end (length b) n) (sym e) (r.each begun level s.relaxing);
}

-- what waits after the last round has nothing to pass on
pub rounds_end : (cave : Cave) (begun levels : ℕ → ℕ) (queue : List ℕ) (begin level : ℕ) → level ≤ 1
    → Rounds cave begun levels queue begin level → IsSettled cave begun levels queue
rounds_end cave begun levels queue begin level low s = record {
  brought_there = s.relaxing.spreads;
  covered = s.relaxing.up;
  settled = λ before cell shared. (elim (s.relaxing.waits before cell shared) [
    | inl p ↦ p
    | inr w ↦ (let l = s.relaxing.low w.0 w.1 w.2 in let e : levels (slice_index queue w.0) ≡ levels before =
        ap levels w.3 in let c = entering_pos cave cell in omega arith)
  ]);
  queued = s.relaxing.queued;
}
