use Rattle.cave_problem.specs.Reach.{AreSidesOf}
use Rattle.cave_problem.proofs.sides.list_itself.Given as goal

abbrev pub invariant-loop-face : goal.invariant-loop-face
invariant-loop-face l = AreSidesOf l._world l.cell l.face l.initial.sides l.sides
