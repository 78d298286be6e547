use Rattle.std.proofs.Common.{ℕ, [], ◌∷◌, ◌∙◌, ap, slice_index, sym}
use Rattle.cave_base.specs.Box.{number, point}
use Rattle.cave_plan.proofs.UpToLemmas.{put_next, up_to_none}
use Rattle.cave_runs.specs.LevelsText.{level_digit}
use Rattle.cave_runs.proofs.levels_text.row.Goals as goal

pub loop-x-init : goal.loop-x-init
loop-x-init c = c.new-out.ensures.items ∙ sym (up_to_none (λ x. level_digit (slice_index c.args.levels.now
    (number (point c.args.size) (record { x = x; y = c.args.y; z = c.args.z }))) ∷ []))

pub loop-x-preserved : goal.loop-x-preserved
loop-x-preserved c = put_next (λ x. level_digit (slice_index c.args.levels.now
    (number (point c.args.size) (record { x = x; y = c.args.y; z = c.args.z }))) ∷ []) c.loop-x.x []
    c.loop-x.out.items (c.level_digit.result ∷ []) c.push.new.self.items c.in_ok-push.ensures.items
    c.loop-x.invariant (ap (λ (n : ℕ). n ∷ []) (c.level_digit.ensures ∙ ap level_digit (c.at.ensures
    ∙ ap (slice_index c.args.levels.now) c.number.ensures.number)))
