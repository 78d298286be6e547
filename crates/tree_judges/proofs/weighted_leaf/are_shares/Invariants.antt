use Rattle.tree_judges.proofs.WeightedLemmas.{AreSharesTo}
use Rattle.tree_judges.proofs.weighted_leaf.are_shares.Given as goal

abbrev pub invariant-loop-index : goal.invariant-loop-index
invariant-loop-index l = AreSharesTo l.shares l.index
