use Rattle.lit_lists.proofs.CountLemmas.{SumsSoFar}
use Rattle.lit_lists.proofs.counting.sums_of.Given as goal

abbrev pub invariant-loop-count : goal.invariant-loop-count
invariant-loop-count l = SumsSoFar l.counts l.sums.items l.count-index l.total
