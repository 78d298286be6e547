-- Passing light on from all cells of a level, and from all levels.
use Rattle.std.proofs.Common.{◌≡◌, ℕ, ◌+◌, ◌<◌, ◌≤◌, List, [], length, get_or, Contains, sym, ap, subst, ◌∙◌, arith}
use Rattle.std.proofs.Common.{inl, inr}
use Rattle.std.proofs.lemmas.Bool.{cases_lt, cases_eq}
use Rattle.std.proofs.lemmas.Grind.{get_or_default_zero}
use Rattle.cave_base.specs.Box.{cell_count}
use Rattle.cave_model.specs.Cells.{AreNeighbours}
use Rattle.cave_model.specs.Cave.{Cave}
use Rattle.light_flood.specs.Spreading.{waiting_at, IsWaiting, IsFlood, IsFloodIn, IsStep, Rises, Spreads, IsPassed}
use Rattle.light_flood.specs.Spreading.{HasPassed, IsSettled}
use Rattle.light_flood.proofs.SpreadLemmas.{spread_none, spread_on, entering_pos}
use Rattle.light_flood.proofs.PassLemmas.{step_none, step_on}

-- ---- one level

-- of the cells that waited at the level, those before this index have passed their light on
pub record PassingLevel (cave : Cave) (level : ℕ) (start levels : ℕ → ℕ) (waiting : List (List ℕ)) (cells : List ℕ)
    (index : ℕ) : Type 0 where
  pub step : IsStep cave (level + 1) level start levels waiting
  pub here : (cell : ℕ) → cell < cell_count cave.size → start cell ≡ level → Contains cells cell
  pub inside : (cell : ℕ) → Contains cells cell → cell < cell_count cave.size
  pub passed : (k d : ℕ) → k < index → levels (get_or cells k d) ≡ level → HasPassed cave levels (get_or cells k d)

-- the cells that wait at a level are taken, and none has passed its light on
pub level_start : (cave : Cave) (level : ℕ) (start : ℕ → ℕ) (waiting next : List (List ℕ)) (cells : List ℕ) → 1 ≤ level
    → IsFlood cave (level + 1) (level + 1) start waiting → cells ≡ waiting_at waiting level
    → IsWaiting waiting level [] next → PassingLevel cave level start start next cells 0
level_start cave level start waiting next cells pos flood taken rest = record {
  step = step_none cave (level + 1) level start next (record {
    low = flood.low;
    passed_on = flood.passed_on;
    awaited = λ cell inside lit below.
        (subst (λ (l : List ℕ). Contains l cell) (sym (rest.others (start cell) (λ e. omega arith)))
        (flood.awaited cell inside lit (omega arith)));
    inside = λ other cell has. (elim (cases_eq other level) [
      | inl e ↦ absurd (not_in_none cell
          (subst (λ (l : List ℕ). Contains l cell) (ap (waiting_at next) e ∙ rest.here) has))
      | inr ne ↦ flood.inside other cell (subst (λ (l : List ℕ). Contains l cell) (rest.others other ne) has)
    ]);
  });
  here = λ cell inside e. (subst (λ (l : List ℕ). Contains l cell) (ap (waiting_at waiting) e ∙ sym taken)
      (flood.awaited cell inside (omega (arith, e)) (omega (arith, e))));
  inside = λ cell has. flood.inside level cell (subst (λ (l : List ℕ). Contains l cell) taken has);
  passed = λ k d h e. absurd (omega arith);
}
  where
    not_in_none : (cell : ℕ) → Contains [] cell → ⊥
    not_in_none cell h = absurd (omega (arith, h.1))

-- what has passed its light on still has, as levels below rise
still_passed : (cave : Cave) (level : ℕ) (levels next : ℕ → ℕ) (cell : ℕ) → Rises level levels next → next cell ≡ level
    → HasPassed cave levels cell → HasPassed cave next cell
still_passed cave level levels next cell rises at passed to shared =
    let same = rises.below cell (omega (arith, at)) in let old = passed to shared in let up = rises.up to in omega arith

-- the next cell has this level, and passed its light on
pub level_passed : (cave : Cave) (level : ℕ) (start levels next : ℕ → ℕ) (waiting later : List (List ℕ))
    (cells : List ℕ) (index from : ℕ) → PassingLevel cave level start levels waiting cells index
    → ((d : ℕ) → get_or cells index d ≡ from) → levels from ≡ level
    → IsStep cave (levels from + 1) (levels from) levels next later → HasPassed cave next from
    → PassingLevel cave level start next later cells (index + 1)
level_passed cave level start levels next waiting later cells index from s this at step passed =
    let step_here = subst (λ (l : ℕ). IsStep cave (l + 1) l levels next later) at step in
    record {
      step = step_on cave (level + 1) level start levels next waiting later s.step step_here;
      here = s.here;
      inside = s.inside;
      passed = λ k d h e. (elim (cases_lt k index) [
        | inl lt ↦ (let was : levels (get_or cells k d) ≡ level =
            sym (step_here.rises.below (get_or cells k d) (omega (arith, e))) ∙ e in
            still_passed cave level levels next (get_or cells k d) step_here.rises e (s.passed k d lt was))
        | inr le ↦ (let now : k ≡ index = omega arith in subst (HasPassed cave next)
            (sym (ap (λ (j : ℕ). get_or cells j d) now ∙ this d)) passed)
      ]);
    }

-- the next cell has another level by now
pub level_skipped : (cave : Cave) (level : ℕ) (start levels : ℕ → ℕ) (waiting : List (List ℕ)) (cells : List ℕ)
    (index from : ℕ) → PassingLevel cave level start levels waiting cells index
    → ((d : ℕ) → get_or cells index d ≡ from) → (levels from ≡ level → ⊥)
    → PassingLevel cave level start levels waiting cells (index + 1)
level_skipped cave level start levels waiting cells index from s this other = record {
  step = s.step;
  here = s.here;
  inside = s.inside;
  passed = λ k d h e. (elim (cases_lt k index) [
    | inl lt ↦ s.passed k d lt e
    | inr le ↦ (let now : k ≡ index = omega arith in
        absurd (other (ap levels (sym (ap (λ (j : ℕ). get_or cells j d) now ∙ this d)) ∙ e)))
  ]);
}

-- the level at which the next cell stands is where the flood stands
pub level_here : (cave : Cave) (level count : ℕ) (start levels : ℕ → ℕ) (waiting : List (List ℕ)) (cells : List ℕ)
    (index from : ℕ) → count ≡ cell_count cave.size → PassingLevel cave level start levels waiting cells index
    → levels from ≡ level → IsFloodIn cave (levels from + 1) (levels from) count levels waiting
level_here cave level count start levels waiting cells index from whole s at = record {
  whole = whole;
  flood = subst (λ (l : ℕ). IsFlood cave (l + 1) l levels waiting) (sym at) s.step.flood;
}

-- all cells of the level have passed their light on
pub level_end : (cave : Cave) (level : ℕ) (start levels : ℕ → ℕ) (waiting : List (List ℕ)) (cells : List ℕ) (index : ℕ)
    → length cells ≤ index → PassingLevel cave level start levels waiting cells index
    → IsStep cave level level start levels waiting
level_end cave level start levels waiting cells index all s = record {
  rises = s.step.rises;
  spreads = s.step.spreads;
  flood = record {
    low = s.step.flood.low;
    passed_on = λ before cell shared high. (elim (cases_eq (levels before) level) [
      | inl e ↦ (let was : start before ≡ level = sym (s.step.rises.below before high) ∙ e in
          let found = s.here before shared.inside was in
          let at : levels (get_or cells found.0 before) ≡ level = ap levels found.2 ∙ e in
          subst (λ (b : ℕ). IsPassed cave levels b cell)
          found.2 (s.passed found.0 before (omega (arith, found.1)) at cell
          (subst (λ (b : ℕ). AreNeighbours cave.size b cell) (sym found.2) shared)))
      | inr ne ↦ s.step.flood.passed_on before cell shared (above before ne high)
    ]);
    awaited = s.step.flood.awaited;
    inside = s.step.flood.inside;
  };
}
  where
    above : (before : ℕ) → (levels before ≡ level → ⊥) → level ≤ levels before → level + 1 ≤ levels before
    above before ne high = elim (cases_lt level (levels before)) [
      | inl lt ↦ omega arith
      | inr le ↦ absurd (ne (omega arith))
    ]

-- ---- all levels

-- levels from this one on have passed their light on
pub record Passing (cave : Cave) (level : ℕ) (start levels : ℕ → ℕ) (waiting : List (List ℕ)) : Type 0 where
  pub flood : IsFlood cave level level levels waiting
  pub up : (cell : ℕ) → start cell ≤ levels cell
  pub spreads : Spreads cave start levels

-- before the first level nothing is passed on
pub passing_none : (cave : Cave) (start : ℕ → ℕ) (waiting : List (List ℕ)) → IsFlood cave 16 16 start waiting
    → Passing cave 16 start start waiting
passing_none cave start waiting flood =
    record { flood = flood; up = λ cell. omega arith; spreads = spread_none cave start }

-- a level done, the flood stands at the next lower one
pub passing_level : (cave : Cave) (level : ℕ) (start levels next : ℕ → ℕ) (waiting later : List (List ℕ))
    → Passing cave (level + 1) start levels waiting → IsStep cave level level levels next later
    → Passing cave level start next later
passing_level cave level start levels next waiting later s step = record {
  flood = step.flood;
  up = λ cell. (let a = s.up cell in let b = step.rises.up cell in omega arith);
  spreads = spread_on cave start levels next s.spreads step.spreads;
}

-- levels from 2 on have passed their light on, and those below have nothing to pass on
pub passing_all : (cave : Cave) (level : ℕ) (start levels : ℕ → ℕ) (waiting : List (List ℕ)) → level ≤ 2
    → Passing cave level start levels waiting → IsSettled cave start levels
passing_all cave level start levels waiting low s = record {
  brought_there = s.spreads;
  covered = s.up;
  settled = λ before cell shared. (elim (cases_lt 1 (levels before)) [
    | inl lt ↦ s.flood.passed_on before cell shared (omega arith)
    | inr le ↦ (let cost = entering_pos cave cell in omega arith)
  ]);
}

-- an element of the list of cells is one of them
pub element_of : (cells : List ℕ) (k : ℕ) → k < length cells → Contains cells (get_or cells k 0)
element_of cells k h = (k, h, get_or_default_zero cells k (get_or cells k 0) h)

-- the cells that wait lie in the box
pub element_inside : (cave : Cave) (level : ℕ) (start levels : ℕ → ℕ) (waiting : List (List ℕ)) (cells : List ℕ)
    (index : ℕ) → PassingLevel cave level start levels waiting cells index → index < length cells
    → get_or cells index 0 < cell_count cave.size
element_inside cave level start levels waiting cells index s h = s.inside (get_or cells index 0)
    (element_of cells index h)
