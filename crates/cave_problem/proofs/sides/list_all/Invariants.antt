use Rattle.cave_problem.specs.Reach.{AreSides}
use Rattle.cave_problem.proofs.sides.list_all.Given as goal

abbrev pub invariant-loop-cell : goal.invariant-loop-cell
invariant-loop-cell l = AreSides l.world l.cell l.sides
