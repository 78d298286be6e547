use Rattle.std.proofs.Common.{◌≡◌, ◌++◌, codes, decimal, string_bytes}
use Rattle.cave_plan.specs.PlanText.{up_to, row_text}
use Rattle.cave_plan.proofs.drawing.layer_text.Given as goal

abbrev pub invariant-loop-z : goal.invariant-loop-z
invariant-loop-z l = string_bytes l.out ≡ codes "layer "
    ++ (decimal l.y ++ (codes "\n" ++ up_to (row_text l.world l.torches l.y) l.z))
