use Rattle.std.proofs.Common.{[], ap, arith, length, subst, sym}
use Rattle.cave_plan.specs.Course.{Course, IsCourse}
use Rattle.cave_plan.proofs.CourseLemmas.{none_planned}
use Rattle.cave_plan.proofs.course.plan_regions.Goals as goal

pub loop-region-init : goal.loop-region-init
loop-region-init g c =
    let allowance = c.args.planner.now.allowance in
    let all = ap length c.into_iter-region-iterator.ensures.into_iter_gives.0 in
    record {
      planned = subst (λ (start : Course). IsCourse [] allowance start) (sym c.new-course.ensures)
          (none_planned allowance);
      counted = omega (arith, all, c.len-count.ensures);
    }

pub region-requires : goal.region-requires
region-requires g c =
    let all = ap length c.in-Some.ensures.steps.0 in
    let more = c.saturating_add-number.ensures in let counted = c.loop-region.invariant.counted in
    (omega (arith, more), omega (arith, all, more, counted))
