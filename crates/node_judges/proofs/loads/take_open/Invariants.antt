use Rattle.std.proofs.Common.{take}
use Rattle.node_judges.specs.Loads.{AreTakenOpen}
use Rattle.node_judges.proofs.loads.take_open.Given as goal

abbrev pub invariant-loop-place : goal.invariant-loop-place
invariant-loop-place l = AreTakenOpen (take l.place-index l.places) l.barred.items l.claim l.fn.rooms l.rooms
