use Rattle.std.proofs.Common.{◌≡◌, drop}
use Rattle.cave_plan.specs.PlanText.{has_torch}
use Rattle.cave_plan.proofs.drawing.has_torch.Given as goal

-- none before the index stands in the layer
abbrev pub invariant-loop-torch : goal.invariant-loop-torch
invariant-loop-torch l = has_torch l.world (drop l.torch-index l.torches) l.y ≡ has_torch l.world l.torches l.y
