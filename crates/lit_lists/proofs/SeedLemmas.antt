-- Levels before light spreads, and what they come to.
use Rattle.std.proofs.Common.{◌≡◌, ℕ, ◌+◌, ◌<◌, ◌≤◌, ◌⊎◌, List, [], ◌∷◌, ◌++◌, length, set, slice_index}
use Rattle.std.proofs.Common.{Contains, sym, ap, subst, ◌∙◌, arith, inl, inr, length-set, get_or-set_same}
use Rattle.std.proofs.Common.{get_or-set_other}
use Rattle.std.proofs.lemmas.Bool.{cases_eq, cases_lt}
use Rattle.std.proofs.lemmas.List.{get_or_past}
use Rattle.std.proofs.lemmas.List.Elements.{Contains-append_left, Contains-push, Contains-push_cases}
use Rattle.cave_base.specs.Box.{cell_count}
use Rattle.cave_model.specs.Cave.{Cave, class_at, IsSound}
use Rattle.cave_model.specs.Light.{Path, BringsFrom}
use Rattle.cave_model.proofs.LightLemmas.{AreSettled, settled_level, path_settled}
use Rattle.lit_lists.specs.Relaxing.{AreLevelsOf, IsSeeded, IsSettled}
use Rattle.lit_lists.specs.Seeded.{AreSeeded, AreUnlit, AreTaken}
use Rattle.lit_lists.specs.Reached.{AreReached}
use Rattle.lit_lists.proofs.RelaxLemmas.{source_inside}

-- no cell is in the empty list
none_in : {A : Type 0} (cell : ℕ) → Contains [] cell → A
none_in cell h = absurd (omega (arith, h.1))

-- the cells before this one have their emissions
pub record Seeding (cave : Cave) (count : ℕ) (levels queue : List ℕ) : Type 0 where
  pub whole : length levels ≡ cell_count cave.size
  pub each : (cell : ℕ) → cell < count → slice_index levels cell ≡ (class_at cave cell).emission
  pub lit : (cell : ℕ) → cell < count → 0 < (class_at cave cell).emission → Contains queue cell
  pub inside : (cell : ℕ) → Contains queue cell → cell < count

-- a number up to one more is below or the one
split : (cell count : ℕ) → cell < count + 1 → (cell < count) ⊎ (cell ≡ count)
split cell count h = elim (cases_lt cell count) [ inl lt ↦ inl lt | inr le ↦ inr (omega arith) ]

module _ (cave : Cave) (count : ℕ) (levels queue : List ℕ) (s : Seeding cave count levels queue)
    (h : count < cell_count cave.size) (emission : ℕ) (is : emission ≡ (class_at cave count).emission) where
  each_now : (cell : ℕ) → cell < count + 1
      → slice_index (set levels count emission) cell ≡ (class_at cave cell).emission
  each_now cell lt = elim (split cell count lt) [
    | inl old ↦ get_or-set_other levels count cell emission 0 (λ e. omega arith) ∙ s.each cell old
    | inr e ↦ ap (slice_index (set levels count emission)) e ∙ get_or-set_same levels count emission 0
        (omega (arith, s.whole)) ∙ is ∙ ap (λ (c : ℕ). (class_at cave c).emission) (sym e)
  ]

  -- the next cell is seeded with its emission, and queued
  pub seeding_lit : Seeding cave (count + 1) (set levels count emission) (queue ++ count ∷ [])
  seeding_lit = record {
    whole = length-set levels count emission ∙ s.whole;
    each = each_now;
    lit = λ cell lt p. (elim (split cell count lt) [
      | inl old ↦ Contains-append_left queue (count ∷ []) cell (s.lit cell old p)
      | inr e ↦ subst (Contains (queue ++ count ∷ [])) (sym e) (Contains-push queue count)
    ]);
    inside = λ cell has. (elim (Contains-push_cases queue count cell has) [
      | inl old ↦ (let lt = s.inside cell old in omega arith)
      | inr e ↦ omega arith
    ]);
  }

  -- one with none isn't queued
  pub seeding_unlit : emission ≡ 0 → Seeding cave (count + 1) (set levels count emission) queue
  seeding_unlit zero = record {
    whole = length-set levels count emission ∙ s.whole;
    each = each_now;
    lit = λ cell lt p. (elim (split cell count lt) [
      | inl old ↦ s.lit cell old p
      | inr e ↦ (let none : (class_at cave cell).emission ≡ 0 = ap (λ (c : ℕ). (class_at cave c).emission) e ∙ sym is
          ∙ zero in absurd (omega arith))
    ]);
    inside = λ cell has. (let lt = s.inside cell has in omega arith);
  }

-- after the last cell all are seeded
pub seeding_all : (cave : Cave) (count : ℕ) (levels queue : List ℕ) → IsSound cave → count ≡ cell_count cave.size
    → Seeding cave count levels queue → AreSeeded cave levels queue
seeding_all cave count levels queue sound e s = record {
  each = λ cell h. s.each cell (omega arith);
  queued = record {
    lit = λ cell p. (elim (cases_lt cell (cell_count cave.size)) [
      | inl lt ↦ (let now = s.each cell (omega arith) in s.lit cell (omega arith) (omega arith))
      | inr le ↦ (let none : slice_index levels cell ≡ 0 = get_or_past levels cell 0 (omega (arith, s.whole)) in
          absurd (omega arith))
    ]);
    inside = λ cell has. (let lt = s.inside cell has in omega arith);
  };
  low = λ cell. (elim (cases_lt cell (cell_count cave.size)) [
    | inl lt ↦ (let now = s.each cell (omega arith) in let f = (sound.classed cell).faint in omega arith)
    | inr le ↦ (let none : slice_index levels cell ≡ 0 = get_or_past levels cell 0 (omega (arith, s.whole)) in
        omega arith)
  ]);
}

-- cells with their emissions are where a relaxation begins
pub seeded : (cave : Cave) (levels queue : List ℕ) → AreSeeded cave levels queue
    → IsSeeded cave (slice_index levels) queue
seeded cave levels queue k = record { low = k.low; queued = k.queued }

-- levels that settled from the emissions are those of light
pub settled_levels : (cave : Cave) (first levels queue next : List ℕ) → AreSeeded cave first queue
    → IsSettled cave (slice_index first) (slice_index levels) next → length levels ≡ cell_count cave.size
    → AreLevelsOf cave levels
settled_levels cave first levels queue next glow s whole = record {
  whole = whole;
  each = λ cell h. settled_level cave (slice_index levels) cell settled h;
}
  where
    settled : AreSettled cave (λ source. (class_at cave source).emission) (slice_index levels)
    settled = record {
      brought_there = λ cell h lit. (let b = s.brought_there cell h lit in
          let from = glow.each b.0 (source_inside b.1.1) in (b.0, (b.1.0, b.1.1, omega (arith, b.1.2))));
      covered = λ cell h. (let up = s.covered cell in let e = glow.each cell h in omega arith);
      settled = s.settled;
    }

-- ---- one source

-- what settled from one source: the cells with light are those that it reaches
pub reached : (cave : Cave) (start levels queue cells : List ℕ) (source light : ℕ) → AreUnlit start
    → length start ≡ cell_count cave.size → source < cell_count cave.size
    → IsSettled cave (slice_index (set start source light)) (slice_index levels) queue
    → AreTaken levels queue cells → AreReached cave source light cells
reached cave start levels queue cells source light unlit whole inside s t = record {
  once = t.once;
  exact = λ cell. (
    λ has. (let a = (t.exact cell).0 has in brings cell (s.queued.inside cell a.0) a.1),
    λ b. (let all = path_settled cave first (slice_index levels) source cell b.0 settled b.1 in
        let some : 0 < slice_index levels cell = omega (arith, b.2, here) in
        (t.exact cell).1 (s.queued.lit cell some, some)),
  );
}
  where
    first : ℕ → ℕ
    first = slice_index (set start source light)

    here : slice_index (set start source light) source ≡ light
    here = get_or-set_same start source light 0 (omega arith)

    settled : AreSettled cave (slice_index (set start source light)) (slice_index levels)
    settled = record { brought_there = s.brought_there; covered = λ c i. s.covered c; settled = s.settled }

    from_source : (cell from cost : ℕ) → Path cave from cell cost
        → slice_index levels cell + cost ≤ slice_index (set start source light) from → 0 < slice_index levels cell
        → (c : ℕ) × Path cave source cell c × (slice_index levels cell + c ≤ light)
    from_source cell from cost p le lit = elim (cases_eq from source) [
      | inl e ↦ (let same : slice_index (set start source light) from ≡ light =
          ap (slice_index (set start source light)) e ∙ here in
          (cost, subst (λ (c : ℕ). Path cave c cell cost) e p, omega arith))
      | inr ne ↦ (let none : slice_index (set start source light) from ≡ 0 =
          get_or-set_other start source from light 0 ne ∙ unlit.each from in absurd (omega arith))
    ]

    brings : (cell : ℕ) → cell < cell_count cave.size → 0 < slice_index levels cell
        → BringsFrom cave source light cell 1
    brings cell h lit =
        let b = s.brought_there cell h lit in
        let f = from_source cell b.0 b.1.0 b.1.1 b.1.2 lit in
        (f.0, f.1, omega (arith, f.2))
