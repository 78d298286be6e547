use Rattle.proof_check.specs.Ends.{IsNoneBelow, IsUnlitBy}
use Rattle.proof_check.proofs.ends.first_unlit.Given as goal

abbrev pub invariant-loop-cell : goal.invariant-loop-cell
invariant-loop-cell l = IsNoneBelow (IsUnlitBy l.lists l.torches) l.cell
