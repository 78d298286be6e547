use Rattle.std.proofs.Common.{length}
use Rattle.node_judges.specs.Loads.{AreWithin}
use Rattle.node_judges.proofs.LoadLemmas.{AreRoomsTo}
use Rattle.node_judges.proofs.loads.take_all.Given as goal

abbrev pub invariant-loop-claim : goal.invariant-loop-claim
invariant-loop-claim l = record {
  within : AreWithin l.lists l.claims (length l.fn.rooms) l.rooms;
  rooms : AreRoomsTo l.lists l.barred.items l.claims l.claim-index l.rooms;
}
