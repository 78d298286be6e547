use Rattle.weight_judge.proofs.ClaimLemmas.{next_claims}
use Rattle.weight_judge.proofs.claims.claims_of.Goals as goal

pub loop-index-preserved : goal.loop-index-preserved
loop-index-preserved c = next_claims c.args.groups.now c.loop-index.index c.index-groups-index.result
    c.loop-index.claims.items c.push_claims.new.claims.items c.as_slice.result.now c.loop-index-test.true
    c.index-groups-index.is c.as_slice.ensures c.loop-index.invariant c.in_ok-push_claims.ensures
