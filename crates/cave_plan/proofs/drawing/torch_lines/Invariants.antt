use Rattle.std.proofs.Common.{◌≡◌, ◌++◌, string_bytes, drop}
use Rattle.std.specs.List.{flat_map}
use Rattle.cave_plan.specs.PlanText.{torch_line}
use Rattle.cave_plan.proofs.drawing.torch_lines.Given as goal

-- the text so far, and the lines of the torches that are left
abbrev pub invariant-loop-torch : goal.invariant-loop-torch
invariant-loop-torch l = string_bytes l.out
    ++ flat_map (torch_line l.world) (drop l.torch-index l.torches) ≡ flat_map (torch_line l.world) l.torches
