use Rattle.std.proofs.Common.{◌≡◌, [], ◌∷◌, slice_index}
use Rattle.cave_base.specs.Box.{number, point}
use Rattle.cave_plan.specs.PlanText.{up_to}
use Rattle.cave_runs.specs.LevelsText.{level_digit}
use Rattle.cave_runs.proofs.levels_text.row.Given as goal

-- the digits of the cells so far
abbrev pub invariant-loop-x : goal.invariant-loop-x
invariant-loop-x l = l.out.items ≡ up_to (λ x. level_digit (slice_index l.levels
    (number (point l.size) (record { x = x; y = l.y; z = l.z }))) ∷ []) l.x
