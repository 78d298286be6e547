use Rattle.std.proofs.Common.{List, ℕ, ◌++◌, ap, ◌∙◌, string_bytes}
use Rattle.cave_plan.specs.PlanText.{row_text}
use Rattle.cave_plan.proofs.UpToLemmas.{layer_start, layer_next}
use Rattle.cave_plan.proofs.drawing.layer_text.Goals as goal

pub loop-z-init : goal.loop-z-init
loop-z-init c = layer_start (row_text c.args.world.now c.args.torches.now c.args.y) c.args.y
    (string_bytes c.in_ok-out.out) c.in_ok-out.ensures.ok

pub loop-z-preserved : goal.loop-z-preserved
loop-z-preserved c =
    layer_next (row_text c.args.world.now c.args.torches.now c.args.y) c.args.y c.loop-z.z
    (string_bytes c.loop-z.out) (string_bytes c.in_ok-row.row) (string_bytes c.push_str.new.self)
    (c.in_ok-push_str.ensures.bytes ∙ ap (λ (l : List ℕ). string_bytes c.loop-z.out
    ++ l) c.as_str.ensures.value) c.loop-z.invariant c.in_ok-row.ensures
