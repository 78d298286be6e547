use Rattle.cave_problem.specs.Reach.{BeginsWith, IsLinkedReach}
use Rattle.cave_problem.proofs.reach.grow.Given as goal

abbrev pub invariant-loop-number : goal.invariant-loop-number
invariant-loop-number l = record {
  reach : IsLinkedReach l.sides l.local l.reach.items l.near l.number;
  kept : BeginsWith l.initial.reach.items l.reach.items;
}
