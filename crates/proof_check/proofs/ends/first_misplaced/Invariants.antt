use Rattle.proof_check.specs.Ends.{IsNoneBelow, IsMisplaced}
use Rattle.proof_check.proofs.ends.first_misplaced.Given as goal

abbrev pub invariant-loop-cell : goal.invariant-loop-cell
invariant-loop-cell l = IsNoneBelow (IsMisplaced l.lists.places l.torches) l.cell
