use Rattle.std.proofs.Common.{take}
use Rattle.node_judges.specs.Loads.{AreCleared}
use Rattle.node_judges.proofs.loads.clear_places.Given as goal

abbrev pub invariant-loop-place : goal.invariant-loop-place
invariant-loop-place l = AreCleared (take l.place-index l.places) l.fn.rooms l.rooms
