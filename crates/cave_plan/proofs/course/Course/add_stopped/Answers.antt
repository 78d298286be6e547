use Rattle.std.proofs.Common.{ap, ◌∙◌, ◌++◌, arith}
use Rattle.cave_plan.specs.Course.{known}
use Rattle.cave_plan.proofs.CourseLemmas.{stopped_added}
use Rattle.cave_plan.proofs.course.Course.add_stopped.Goals as goal

pub returns : goal.returns
returns c =
    let self = c.args.self.now in
    stopped_added c.args.allowance c.args.cover.now c.args.floor c.args.turns (known self)
    c.extend_from_slice.new.self.items c.sum_within-self.result c.max-self.result c.requires.stopped c.requires.used
    c.places.ensures.kept
    (c.in_ok-extend_from_slice.ensures.items ∙ ap (λ l. self.torches.items ++ l) c.places.ensures.places)
    (λ le. c.sum_within-self.ensures (omega (arith, le, c.len.ensures))) c.max-self.ensures
