use Rattle.std.proofs.Common.{ℕ, List, ◌++◌, ◌∙◌, ap, codes, sym}
use Rattle.std.proofs.lemmas.List.{append-nil}
use Rattle.cave_base.specs.Box.{point}
use Rattle.cave_plan.proofs.UpToLemmas.{put_next, up_to_none}
use Rattle.cave_runs.specs.DarkText.{point_line}
use Rattle.cave_runs.specs.LevelsText.{levels_layer}
use Rattle.cave_runs.proofs.levels_text.levels_text.Goals as goal

pub loop-y-init : goal.loop-y-init
loop-y-init c = c.in_ok-out.ensures
    ∙ ap (λ (l : List ℕ). codes "levels " ++ l) (sym (append-nil (point_line (point c.args.size))))
    ∙ ap (λ (l : List ℕ). codes "levels " ++ (point_line (point c.args.size) ++ l))
    (sym (up_to_none (levels_layer (point c.args.size) c.args.levels.now)))

pub loop-y-preserved : goal.loop-y-preserved
loop-y-preserved c = put_next (levels_layer (point c.args.size) c.args.levels.now) c.loop-y.y
    (codes "levels " ++ point_line (point c.args.size)) c.loop-y.out.items c.in_ok-layer.layer.items
    c.extend_from_slice.new.self.items
    (c.in_ok-extend_from_slice.ensures.items ∙ ap (λ (l : List ℕ). c.loop-y.out.items ++ l) c.deref.ensures.value)
    c.loop-y.invariant c.in_ok-layer.ensures
