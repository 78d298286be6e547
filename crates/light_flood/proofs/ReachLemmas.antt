-- What is kept of a reach, and that a settled flood from one cell is one.
use Rattle.std.proofs.Common.{◌≡◌, ◌≢◌, ℕ, ◌<◌, cond, List, [], ◌∷◌, Option, Some, refl, ap, subst, ◌∙◌, ◌⊎◌, arith}
use Rattle.std.proofs.Common.{inl, inr, eq-zero-or-pos}
use Rattle.std.specs.Prelude.{unwrap_or}
use Rattle.std.specs.Ordering.{nat_cmp}
use Rattle.std.specs.Cmp.{nat_cmp_total}
use Rattle.std.specs.BTreeMap.{is_at}
use Rattle.std.specs.Map.{lookup}
use Rattle.std.specs.FinMap.{from_entries, get-from_entries}
use Rattle.std.specs.FinMap.Entries.{find}
use Rattle.std.proofs.lemmas.Bool.{cases_eq, cases_lt}
use Rattle.cave_base.specs.Box.{cell_count}
use Rattle.cave_model.specs.Cave.{Cave}
use Rattle.cave_model.specs.Light.{Path, BringsFrom}
use Rattle.light_flood.specs.Levels.{AreReachOf}
use Rattle.light_flood.specs.Reached.{reached}
use Rattle.light_flood.specs.Spreading.{IsRaised, IsSettled}
use Rattle.light_flood.proofs.SpreadLemmas.{spread_brought, spread_outside, path_lit}

-- finding a cell in the map is looking it up among its entries
find-lookup : (cell : ℕ) (entries : List (ℕ × ℕ)) → find nat_cmp cell entries ≡ lookup (is_at (nat_cmp cell)) entries
find-lookup cell [] = refl
find-lookup cell (e ∷ es) = ap (λ (o : Option ℕ). cond (is_at (nat_cmp cell) e.0) (Some e.1) o) (find-lookup cell es)

-- what a map has, its finite map has
pub reached-from_entries : (entries : List (ℕ × ℕ)) (cell : ℕ)
    → reached (from_entries entries) cell ≡ unwrap_or (lookup (is_at (nat_cmp cell)) entries) 0
reached-from_entries entries cell = ap (λ (o : Option ℕ). unwrap_or o 0)
    (get-from_entries nat_cmp_total entries cell ∙ find-lookup cell entries)

-- ---- one source

module _ (cave : Cave) (source emission : ℕ) (dark first levels : ℕ → ℕ) (none : (cell : ℕ) → dark cell ≡ 0)
    (raised : IsRaised dark source emission first) (s : IsSettled cave first levels) where
  -- light comes from the source alone
  from_source : (cell from : ℕ) → BringsFrom cave from (first from) cell (levels cell) → 0 < levels cell
      → BringsFrom cave source emission cell (levels cell)
  from_source cell from b lit = elim (cases_eq from source) [
    | inl e ↦ (let here : first from ≡ emission = ap first e ∙ raised.raised in
        (b.0, subst (λ (c : ℕ). Path cave c cell b.0) e b.1, omega (arith, b.2)))
    | inr ne ↦ (let zero : first from ≡ 0 = raised.others from ne ∙ none from in absurd (omega (arith, b.2)))
  ]

  -- a cell has no light, or the source brings it
  brought_or_none : (cell : ℕ) → source < cell_count cave.size
      → (levels cell ≡ 0) ⊎ BringsFrom cave source emission cell (levels cell)
  brought_or_none cell source_in = elim (eq-zero-or-pos (levels cell)) [
    | inl e ↦ inl e
    | inr lit ↦ elim (cases_lt cell (cell_count cave.size)) [
      | inl inside ↦ (let b = spread_brought cave first levels cell s.brought_there inside in
          inr (from_source cell b.0 b.1 lit))
      | inr past ↦ (let far : cell ≢ source = λ e. absurd (omega arith) in
          let zero : levels cell ≡ 0 = spread_outside cave first levels cell s.brought_there past
          ∙ raised.others cell far ∙ none cell in inl zero)
    ]
  ]

  -- a flood that settled from one cell with light is its reach
  pub settled_reach : source < cell_count cave.size → AreReachOf cave source emission levels
  settled_reach source_in cell = record {
    reached = brought_or_none cell source_in;
    most = λ level b. path_lit cave first levels source cell b.0 level s b.1 (omega (arith, b.2, raised.raised));
  }
