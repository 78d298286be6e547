use Rattle.proof_check.specs.Ends.{NoneBad}
use Rattle.proof_check.proofs.parts.first_joining.Given as goal

abbrev pub invariant-loop-place : goal.invariant-loop-place
invariant-loop-place l = NoneBad l.world l.lists l.regions l.place
