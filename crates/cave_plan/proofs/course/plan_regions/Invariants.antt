use Rattle.std.proofs.Common.{◌≡◌, ◌+◌, length}
use Rattle.cave_plan.specs.Course.{IsCourse, known}
use Rattle.cave_plan.proofs.course.plan_regions.Given as goal

-- the regions so far are planned, and with those that are left they are as many as there are
abbrev pub invariant-loop-region : goal.invariant-loop-region
invariant-loop-region g l = record {
  planned : IsCourse l.yielded l.fn.planner.allowance (known l.course);
  counted : l.number + length l.region-iterator.rest.items ≡ l.count;
}
