use Rattle.tree_judges.proofs.OpenLemmas.{AreListsTo}
use Rattle.tree_judges.proofs.open_lists.open_lists.Given as goal

abbrev pub invariant-loop-claim : goal.invariant-loop-claim
invariant-loop-claim l = AreListsTo l.region l.node l.claims l.claim-index l.lists
