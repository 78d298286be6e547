use Rattle.std.proofs.Common.{◌≡◌, take}
use Rattle.cave_problem.specs.Reach.{IsReach}
use Rattle.cave_problem.proofs.reach.begin.Given as goal

abbrev pub invariant-loop-number : goal.invariant-loop-number
invariant-loop-number l = record {
  reach : IsReach l.local l.reach.items;
  same : l.reach.items ≡ take l.number l.cells;
}
