use Rattle.std.proofs.Common.{[], sym, ap, ◌∙◌, string_bytes}
use Rattle.cave_base.specs.Box.{Point, number}
use Rattle.cave_plan.specs.PlanText.{mark_at}
use Rattle.cave_plan.proofs.UpToLemmas.{up_to_none, put_next}
use Rattle.cave_plan.proofs.drawing.row_text.Goals as goal

pub loop-x-init : goal.loop-x-init
loop-x-init c = c.new-out.ensures.bytes ∙ sym (up_to_none
    (λ x. mark_at c.args.world.now c.args.torches.now
    (number c.args.world.now.size (record { x = x; y = c.args.y; z = c.args.z }))))

pub loop-x-preserved : goal.loop-x-preserved
loop-x-preserved c =
    let here = c.number.ensures.number ∙ ap (λ (s : Point). number s
    (record { x = c.loop-x.x; y = c.args.y; z = c.args.z })) c.size-size.ensures.size in
    let mark = c.mark_at.ensures ∙ ap (mark_at c.args.world.now c.args.torches.now) here in
    put_next (λ x. mark_at c.args.world.now c.args.torches.now
    (number c.args.world.now.size (record { x = x; y = c.args.y; z = c.args.z }))) c.loop-x.x []
    (string_bytes c.loop-x.out) c.mark_at.result.now (string_bytes c.push_str.new.self)
    c.in_ok-push_str.ensures.bytes c.loop-x.invariant mark
