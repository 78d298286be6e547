use Rattle.std.proofs.Common.{◌≡◌, ◌++◌, codes}
use Rattle.cave_base.specs.Box.{point}
use Rattle.cave_plan.specs.PlanText.{up_to}
use Rattle.cave_runs.specs.DarkText.{point_line}
use Rattle.cave_runs.specs.LevelsText.{levels_layer}
use Rattle.cave_runs.proofs.levels_text.levels_text.Given as goal

-- the first line, and the layers so far
abbrev pub invariant-loop-y : goal.invariant-loop-y
invariant-loop-y l = l.out.items ≡ codes "levels " ++ (point_line (point l.size)
    ++ up_to (levels_layer (point l.size) l.levels) l.y)
