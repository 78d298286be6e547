use Rattle.std.proofs.Common.{◌≡◌, string_bytes}
use Rattle.cave_plan.specs.PlanText.{up_to, layer_if}
use Rattle.cave_plan.proofs.drawing.layers_text.Given as goal

abbrev pub invariant-loop-y : goal.invariant-loop-y
invariant-loop-y l = string_bytes l.out ≡ up_to (layer_if l.world l.torches) l.y
