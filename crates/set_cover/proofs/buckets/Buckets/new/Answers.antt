use Rattle.std.proofs.Common.{subst, arith}
use Rattle.set_cover.proofs.BucketLemmas.{AreEmptyLists, empty_push, all_none}
use Rattle.set_cover.proofs.buckets.Buckets.new.Goals as goal

pub loop-preserved : goal.loop-preserved
loop-preserved c = rw c.in_ok-push.ensures.items
    (empty_push c.loop.counter c.loop.lists.items c.new.result c.loop.invariant c.new.ensures.items)

pub returns : goal.returns
returns c = all_none c.args.count c.loop.lists.items
    (subst (λ n. AreEmptyLists n c.loop.lists.items) (omega arith) c.loop.invariant)
