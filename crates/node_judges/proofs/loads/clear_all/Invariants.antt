use Rattle.std.proofs.Common.{length}
use Rattle.node_judges.specs.Loads.{AreWithin}
use Rattle.node_judges.proofs.LoadLemmas.{AreClearedTo}
use Rattle.node_judges.proofs.loads.clear_all.Given as goal

abbrev pub invariant-loop-claim : goal.invariant-loop-claim
invariant-loop-claim l = record {
  within : AreWithin l.lists l.claims (length l.fn.rooms) l.rooms;
  cleared : AreClearedTo l.lists l.claims l.claim-index l.rooms;
}
