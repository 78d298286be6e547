use Rattle.set_cover.proofs.BucketLemmas.{AreEmptyLists}
use Rattle.set_cover.proofs.buckets.Buckets.new.Given as goal

abbrev pub invariant-loop : goal.invariant-loop
invariant-loop l = AreEmptyLists l.counter l.lists.items
