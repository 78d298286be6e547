-- Why a cave has no plan, from why it has no coverage.
use Rattle.std.proofs.Common.{◌≡◌, ◌≢◌, ◌⊎◌, ◌∙◌, ℕ, List, refl, sym, ap, inl, inr}
use Rattle.cave_base.specs.Box.{Point, coordinates, point}
use Rattle.cave_model.specs.Cave.{Cave}
use Rattle.cave_problem.specs.Coverage.{IsUnlightableFault}
use Rattle.cave_problem.specs.declared.fault.CoverFault.{CoverFault}
use Rattle.cave_problem.specs.declared.fault.CoverFault.TheVariants as cover
use Rattle.cave_plan.specs.Faults.{NamesUnlightable, of_cover, unlightable_at}
use Rattle.cave_plan.specs.declared.fault.PlanFault.{PlanFault}
use Rattle.cave_plan.specs.declared.fault.PlanFault.TheVariants as plan

-- the cell with this number, by the coordinates that were worked out
pub told_at : (cave : Cave) (cell : ℕ) (size at : List ℕ) → point size ≡ cave.size
    → point at ≡ coordinates (point size) cell
    → plan.Unlightable (point at).x (point at).y (point at).z ≡ unlightable_at (coordinates cave.size cell)
told_at cave cell size at sized is =
    ap unlightable_at (is ∙ ap (λ (s : Point). coordinates s cell) sized)

-- a fault of the coverage, told as one of the plan, names the same cell
pub cover_names : (cave : Cave) (e : CoverFault) → (e ≢ cover.OutOfMemory → IsUnlightableFault cave e)
    → of_cover cave.size e ≢ plan.OutOfMemory → NamesUnlightable cave (of_cover cave.size e)
cover_names cave cover.OutOfMemory told other = absurd (other refl)
cover_names cave (cover.Unlightable cell) told other = named (cover.Unlightable cell) (told (λ same. cc))
  where
    named : (e : CoverFault) → IsUnlightableFault cave e → NamesUnlightable cave (of_cover cave.size e)
    named e (other, is, least, same) = record {
      cell = other;
      unlightable = is;
      least = least;
      named = ap (of_cover cave.size) same;
    }

-- no fault of the coverage is want of threads
pub cover_no_thread : (cave : Cave) (e : CoverFault) → of_cover cave.size e ≢ plan.NoThread
cover_no_thread cave (cover.Unlightable cell) same = cc
cover_no_thread cave cover.OutOfMemory same = cc

-- the fault of the plan that names such a cell is answered where that of the coverage is
pub cover_refused : (cave : Cave) (f : CoverFault)
    → ((e : CoverFault) → IsUnlightableFault cave e → (f ≡ e) ⊎ (f ≡ cover.OutOfMemory))
    → (due : PlanFault) → NamesUnlightable cave due
    → (of_cover cave.size f ≡ due) ⊎ (of_cover cave.size f ≡ plan.OutOfMemory)
cover_refused cave f refused due u =
    told (refused (cover.Unlightable u.cell) (u.cell, u.unlightable, u.least, refl))
  where
    told : (f ≡ cover.Unlightable u.cell) ⊎ (f ≡ cover.OutOfMemory)
        → (of_cover cave.size f ≡ due) ⊎ (of_cover cave.size f ≡ plan.OutOfMemory)
    told (inl same) = inl (ap (of_cover cave.size) same ∙ sym u.named)
    told (inr same) = inr (ap (of_cover cave.size) same)

-- where the cave has a coverage, no fault names such a cell
pub none_named : (cave : Cave) → ((e : CoverFault) → IsUnlightableFault cave e → ⊥) → (fault : PlanFault)
    → NamesUnlightable cave fault → ⊥
none_named cave clean fault u = clean (cover.Unlightable u.cell) (u.cell, u.unlightable, u.least, refl)
