use Rattle.std.proofs.Common.{ℕ, List, [], ◌++◌, ◌∙◌, ap, sym}
use Rattle.cave_base.specs.Box.{point}
use Rattle.cave_plan.proofs.UpToLemmas.{put_next, up_to_none}
use Rattle.cave_runs.specs.LevelsText.{levels_row}
use Rattle.cave_runs.proofs.levels_text.layer.Goals as goal

pub loop-z-init : goal.loop-z-init
loop-z-init c =
    c.new-out.ensures.items ∙ sym (up_to_none (levels_row (point c.args.size) c.args.levels.now c.args.y))

pub loop-z-preserved : goal.loop-z-preserved
loop-z-preserved c = put_next (levels_row (point c.args.size) c.args.levels.now c.args.y) c.loop-z.z []
    c.loop-z.out.items c.in_ok-row.row.items c.extend_from_slice.new.self.items
    (c.in_ok-extend_from_slice.ensures.items ∙ ap (λ (l : List ℕ). c.loop-z.out.items ++ l) c.deref.ensures.value)
    c.loop-z.invariant c.in_ok-row.ensures
