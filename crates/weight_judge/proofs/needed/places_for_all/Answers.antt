use Rattle.std.proofs.Common.{arith}
use Rattle.weight_judge.proofs.NeededLemmas.{few_shares, sum_fits, next_needed}
use Rattle.weight_judge.proofs.needed.places_for_all.Goals as goal

pub places_for-total-requires-clause-few : goal.places_for-total-requires-clause-few
places_for-total-requires-clause-few c = few_shares c.args.groups.now c.loop-group.group-index c.group-item.result
    c.loop-group-test.true c.group-item.is 4294967296 c.requires.few

pub overflow_add-total : goal.overflow_add-total
overflow_add-total c = let a = sum_fits c.args.groups.now c.loop-group.group-index c.group-item.result
    c.loop-group-test.true c.group-item.is in
    omega (arith, c.requires.few, c.loop-group.invariant.1, c.places_for-total.ensures.few, a)

pub loop-group-preserved : goal.loop-group-preserved
loop-group-preserved c = next_needed c.args.groups.now c.loop-group.group-index c.group-item.result
    c.loop-group-test.true c.group-item.is c.loop-group.total c.places_for-total.result c.loop-group.invariant
    c.places_for-total.ensures.exact c.places_for-total.ensures.few
