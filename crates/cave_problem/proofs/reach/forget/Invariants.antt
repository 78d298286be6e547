use Rattle.cave_problem.proofs.NumberedLemmas.{Forgetting}
use Rattle.cave_problem.proofs.reach.forget.Given as goal

abbrev pub invariant-loop-cell : goal.invariant-loop-cell
invariant-loop-cell l = Forgetting l.local l.reach l.cell-index
