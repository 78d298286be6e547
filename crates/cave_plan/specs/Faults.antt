-- Why a cave has no plan. This is this project's own.
use Rattle.std.specs.Prelude.{◌≡◌, ◌⊎◌, ◌≤◌, ℕ, Result, MatchResult}
use Rattle.cave_base.specs.Box.{Point, coordinates}
use Rattle.cave_model.specs.Cave.{Cave}
use Rattle.cave_problem.specs.Coverage.{IsUnlightable}
use Rattle.cave_problem.specs.declared.fault.CoverFault.{CoverFault}
use Rattle.cave_problem.specs.declared.fault.CoverFault.TheVariants as cover
use Rattle.cave_plan.specs.declared.fault.PlanFault.{PlanFault}
use Rattle.cave_plan.specs.declared.fault.PlanFault.TheVariants as plan

-- the fault that names the cell at a point
abbrev pub unlightable_at : Point → PlanFault
unlightable_at at = plan.Unlightable at.x at.y at.z

-- the fault of a cave's coverage, as that of its plan: the cell by its coordinates in the box
abbrev pub of_cover : Point → CoverFault → PlanFault
of_cover size (cover.Unlightable cell) = unlightable_at (coordinates size cell)
of_cover size cover.OutOfMemory = plan.OutOfMemory

-- the fault names the least dark cell that no place lights, by its coordinates
pub record NamesUnlightable (cave : Cave) (fault : PlanFault) : Type 0 where
  pub cell : ℕ
  pub unlightable : IsUnlightable cave cell
  pub least : (other : ℕ) → IsUnlightable cave other → cell ≤ other
  pub named : fault ≡ unlightable_at (coordinates cave.size cell)

-- the fault, unless memory ran out
abbrev pub IsRefusedPlan : {X : Type 0} → Result X PlanFault → PlanFault → Type 0
IsRefusedPlan r fault = MatchResult r (λ _. ⊥) (λ e. (e ≡ fault) ⊎ (e ≡ plan.OutOfMemory))
