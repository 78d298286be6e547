use Rattle.std.proofs.Common.{List, ℕ, ◌++◌, [], sym, ap, ◌∙◌, string_bytes}
use Rattle.cave_plan.specs.PlanText.{layer_if}
use Rattle.cave_plan.proofs.UpToLemmas.{up_to_none, put_next}
use Rattle.cave_plan.proofs.drawing.layers_text.Goals as goal

pub loop-y-init : goal.loop-y-init
loop-y-init c = c.new-out.ensures.bytes ∙ sym (up_to_none (layer_if c.args.world.now c.args.torches.now))

pub loop-y-preserved : goal.loop-y-preserved
loop-y-preserved c =
    put_next (layer_if c.args.world.now c.args.torches.now) c.loop-y.y [] (string_bytes c.loop-y.out)
    (string_bytes c.in_ok-layer.layer) (string_bytes c.push_str.new.self)
    (c.in_ok-push_str.ensures.bytes ∙ ap (λ (l : List ℕ). string_bytes c.loop-y.out
    ++ l) c.as_str.ensures.value) c.loop-y.invariant c.in_ok-layer.ensures
