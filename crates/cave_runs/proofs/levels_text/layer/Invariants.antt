use Rattle.std.proofs.Common.{◌≡◌}
use Rattle.cave_base.specs.Box.{point}
use Rattle.cave_plan.specs.PlanText.{up_to}
use Rattle.cave_runs.specs.LevelsText.{levels_row}
use Rattle.cave_runs.proofs.levels_text.layer.Given as goal

-- the rows so far
abbrev pub invariant-loop-z : goal.invariant-loop-z
invariant-loop-z l = l.out.items ≡ up_to (levels_row (point l.size) l.levels l.y) l.z
