use Rattle.std.proofs.Common.{◌≡◌, ◌++◌, length}
use Rattle.proof_check.specs.Judged.{shares_of}
use Rattle.proof_check.proofs.weighing.shares_of.Given as goal

abbrev pub invariant-loop-rest : goal.invariant-loop-rest
invariant-loop-rest l = l.shares.items ++ shares_of l.rest ≡ shares_of l.fn.numbers

abbrev pub decreases-loop-rest : goal.decreases-loop-rest
decreases-loop-rest l = length l.rest
