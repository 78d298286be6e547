use Rattle.proof_check.specs.Ends.{AreParted}
use Rattle.proof_check.proofs.parts.are_parted.Given as goal

abbrev pub invariant-loop-cell : goal.invariant-loop-cell
invariant-loop-cell l = AreParted l.lists l.regions l.cell
