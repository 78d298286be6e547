use Rattle.std.proofs.Common.{◌≡◌, string_bytes}
use Rattle.cave_base.specs.Box.{number}
use Rattle.cave_plan.specs.PlanText.{up_to, mark_at}
use Rattle.cave_plan.proofs.drawing.row_text.Given as goal

abbrev pub invariant-loop-x : goal.invariant-loop-x
invariant-loop-x l = string_bytes l.out ≡ up_to (λ x. mark_at l.world l.torches
    (number l.world.size (record { x = x; y = l.y; z = l.z }))) l.x
