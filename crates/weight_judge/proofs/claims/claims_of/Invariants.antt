use Rattle.std.proofs.Common.{◌≡◌, take}
use Rattle.weight_judge.specs.Claims.{claims_of}
use Rattle.weight_judge.proofs.claims.claims_of.Given as goal

abbrev pub invariant-loop-index : goal.invariant-loop-index
invariant-loop-index l = l.claims.items ≡ claims_of (take l.index l.groups)
