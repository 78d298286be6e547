use Rattle.tree_judges.proofs.WeightedLemmas.{AreGroupsTo}
use Rattle.tree_judges.proofs.weighted_leaf.are_groups.Given as goal

abbrev pub invariant-loop-index : goal.invariant-loop-index
invariant-loop-index l = AreGroupsTo l.groups l.index
