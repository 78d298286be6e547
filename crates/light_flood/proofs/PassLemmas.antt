-- Passing light on to all neighbours of a cell.
use Rattle.std.proofs.Common.{◌≡◌, ℕ, ◌+◌, ◌<◌, ◌≤◌, List, get_or, Option, Some, None, refl, sym, ap, subst, ◌∙◌}
use Rattle.std.proofs.Common.{arith, inl, inr}
use Rattle.std.proofs.lemmas.Bool.{cases_lt}
use Rattle.cave_base.specs.Box.{cell_count}
use Rattle.cave_model.specs.Cells.{neighbours_of}
use Rattle.cave_model.specs.Cave.{Cave}
use Rattle.cave_model.proofs.NeighbourLemmas.{index_of, index_below, listed_at}
use Rattle.light_flood.specs.Spreading.{IsFlood, IsFloodIn, IsStep, Rises, IsPassed, HasPassed}
use Rattle.light_flood.proofs.SpreadLemmas.{spread_none, spread_on}

-- ---- one neighbour after another

-- levels that stay rise to themselves
pub rise_none : (level : ℕ) (f : ℕ → ℕ) → Rises level f f
rise_none level f = record { up = λ cell. omega arith; below = λ cell h. refl }

-- levels that rise in two steps rise from the first
pub rise_on : (level : ℕ) (f g h : ℕ → ℕ) → Rises level f g → Rises level g h → Rises level f h
rise_on level f g h first second = record {
  up = λ cell. (let a = first.up cell in let b = second.up cell in omega arith);
  below = λ cell high. (let same = second.below cell high in same ∙ first.below cell (omega (arith, same)));
}

-- a step that passes nothing on
pub step_none : (cave : Cave) (passed level : ℕ) (f : ℕ → ℕ) (waiting : List (List ℕ))
    → IsFlood cave passed level f waiting → IsStep cave passed level f f waiting
step_none cave passed level f waiting flood =
    record { rises = rise_none level f; spreads = spread_none cave f; flood = flood }

-- two steps from one level are one
pub step_on : (cave : Cave) (passed level : ℕ) (f g h : ℕ → ℕ) (waiting later : List (List ℕ))
    → IsStep cave passed level f g waiting → IsStep cave passed level g h later → IsStep cave passed level f h later
step_on cave passed level f g h waiting later first second = record {
  rises = rise_on level f g h first.rises second.rises;
  spreads = spread_on cave f g h first.spreads second.spreads;
  flood = second.flood;
}

-- the neighbours before this index have been offered light
pub record PassingOn (cave : Cave) (from : ℕ) (start levels : ℕ → ℕ) (waiting : List (List ℕ))
    (around : List (Option ℕ)) (index : ℕ) : Type 0 where
  pub whole : around ≡ neighbours_of cave.size from
  pub step : IsStep cave (start from + 1) (start from) start levels waiting
  pub offered : (j to : ℕ) → j < index → get_or around j None ≡ Some to → IsPassed cave levels from to

-- before the first neighbour no light is passed on
pub passing_start : (cave : Cave) (from : ℕ) (start : ℕ → ℕ) (waiting : List (List ℕ)) (around : List (Option ℕ))
    → around ≡ neighbours_of cave.size from → IsFlood cave (start from + 1) (start from) start waiting
    → PassingOn cave from start start waiting around 0
passing_start cave from start waiting around whole flood = record {
  whole = whole;
  step = step_none cave (start from + 1) (start from) start waiting flood;
  offered = λ j to h e. absurd (omega arith);
}

-- the cell that passes on has the level that it had
pub from_kept : (cave : Cave) (from : ℕ) (start levels : ℕ → ℕ) (waiting : List (List ℕ))
    → IsStep cave (start from + 1) (start from) start levels waiting → levels from ≡ start from
from_kept cave from start levels waiting step = step.rises.below from (step.rises.up from)

-- between two neighbours the flood stands at the level of the cell
pub flood_here : (cave : Cave) (from cells : ℕ) (start levels : ℕ → ℕ) (waiting : List (List ℕ))
    → cells ≡ cell_count cave.size → IsStep cave (start from + 1) (start from) start levels waiting
    → IsFloodIn cave (levels from + 1) (levels from) cells levels waiting
flood_here cave from cells start levels waiting whole step = record {
  whole = whole;
  flood = subst (λ (level : ℕ). IsFlood cave (level + 1) level levels waiting)
      (sym (from_kept cave from start levels waiting step)) step.flood;
}

-- a step from where the flood stands goes on with those before
pub step_next : (cave : Cave) (from : ℕ) (start levels next : ℕ → ℕ) (waiting later : List (List ℕ))
    → IsStep cave (start from + 1) (start from) start levels waiting
    → IsStep cave (levels from + 1) (levels from) levels next later
    → IsStep cave (start from + 1) (start from) start next later
step_next cave from start levels next waiting later first second =
    let kept = from_kept cave from start levels waiting first in
    step_on cave (start from + 1) (start from) start levels next waiting later first
    (subst (λ (level : ℕ). IsStep cave (level + 1) level levels next later) kept second)

-- what couldn't be raised still can't, as the cell that passes on keeps its level
still_passed : (cave : Cave) (from other : ℕ) (levels next : ℕ → ℕ) (later : List (List ℕ))
    → IsStep cave (levels from + 1) (levels from) levels next later → IsPassed cave levels from other
    → IsPassed cave next from other
still_passed cave from other levels next later step old =
    let same = step.rises.below from (step.rises.up from) in let up = step.rises.up other in omega arith

-- a neighbour was offered light
pub passing_some : (cave : Cave) (from to : ℕ) (start levels next : ℕ → ℕ) (waiting later : List (List ℕ))
    (around : List (Option ℕ)) (index : ℕ) → PassingOn cave from start levels waiting around index
    → get_or around index None ≡ Some to → IsStep cave (levels from + 1) (levels from) levels next later
    → IsPassed cave next from to → PassingOn cave from start next later around (index + 1)
passing_some cave from to start levels next waiting later around index s here step passed = record {
  whole = s.whole;
  step = step_next cave from start levels next waiting later s.step step;
  offered = λ j other h e. (elim (cases_lt j index) [
    | inl lt ↦ still_passed cave from other levels next later step (s.offered j other lt e)
    | inr le ↦ (let now : j ≡ index = omega arith in
        let found : Some other ≡ Some to = sym e ∙ ap (λ (k : ℕ). get_or around k None) now ∙ here in
        let same : to ≡ other = cc in subst (IsPassed cave next from) same passed)
  ]);
}

-- there is no neighbour
pub passing_none : (cave : Cave) (from : ℕ) (start levels : ℕ → ℕ) (waiting : List (List ℕ)) (around : List (Option ℕ))
    (index : ℕ) → PassingOn cave from start levels waiting around index → get_or around index None ≡ None
    → PassingOn cave from start levels waiting around (index + 1)
passing_none cave from start levels waiting around index s here = record {
  whole = s.whole;
  step = s.step;
  offered = λ j other h e. (elim (cases_lt j index) [
    | inl lt ↦ s.offered j other lt e
    | inr le ↦ (let now : j ≡ index = omega arith in
        let found : Some other ≡ None = sym e ∙ ap (λ (k : ℕ). get_or around k None) now ∙ here in absurd cc)
  ]);
}

-- all were
pub passing_end : (cave : Cave) (from : ℕ) (start levels : ℕ → ℕ) (waiting : List (List ℕ)) (around : List (Option ℕ))
    (index : ℕ) → 6 ≤ index → PassingOn cave from start levels waiting around index → HasPassed cave levels from
passing_end cave from start levels waiting around index all s = λ to shared.
    (let low = index_below shared.face in
    let there : get_or around (index_of shared.face) None ≡ Some to =
    ap (λ (l : List (Option ℕ)). get_or l (index_of shared.face) None) s.whole
    ∙ listed_at cave.size from shared.face ∙ shared.there in
    s.offered (index_of shared.face) to (omega arith) there)
