use Rattle.std.proofs.Common.{take}
use Rattle.weight_judge.specs.Rooms.{AreTaken}
use Rattle.weight_judge.proofs.rooms.take_places.Given as goal

abbrev pub invariant-loop-place : goal.invariant-loop-place
invariant-loop-place l = AreTaken (take l.place-index l.places) l.claim l.fn.rooms l.rooms
