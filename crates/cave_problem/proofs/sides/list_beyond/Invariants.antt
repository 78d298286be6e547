use Rattle.cave_problem.specs.Reach.{AreSidesOf}
use Rattle.cave_problem.proofs.sides.list_beyond.Given as goal

abbrev pub invariant-loop-face : goal.invariant-loop-face
invariant-loop-face l = AreSidesOf l.world l.cell l.face l.initial.sides l.sides
