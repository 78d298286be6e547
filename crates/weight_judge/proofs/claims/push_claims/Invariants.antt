use Rattle.std.proofs.Common.{◌≡◌, ◌++◌, take}
use Rattle.weight_judge.specs.Claims.{share_claims}
use Rattle.weight_judge.proofs.claims.push_claims.Given as goal

abbrev pub invariant-loop-share : goal.invariant-loop-share
invariant-loop-share l = l.claims.items ≡ l.fn.claims.items
    ++ share_claims l.group l.capacity (take l.share-index l.shares)
