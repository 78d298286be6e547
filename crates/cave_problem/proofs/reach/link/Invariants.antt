use Rattle.cave_problem.specs.Reach.{IsReach}
use Rattle.cave_problem.proofs.NumberedLemmas.{Linking}
use Rattle.cave_problem.proofs.reach.link.Given as goal

abbrev pub invariant-loop-face : goal.invariant-loop-face
invariant-loop-face l = record {
  reach : IsReach l.local l.reach.items;
  linking : Linking l.sides l.initial.reach.items l.reach.items l.near l.number l.face;
}
