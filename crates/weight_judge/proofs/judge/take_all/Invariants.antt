use Rattle.std.proofs.Common.{◌≡◌, length, take}
use Rattle.weight_judge.specs.Rooms.{AreRooms}
use Rattle.weight_judge.proofs.judge.take_all.Given as goal

abbrev pub invariant-loop-index : goal.invariant-loop-index
invariant-loop-index l = record {
  whole : length l.rooms ≡ length l.fn.rooms;
  rooms : AreRooms (take l.index l.claims) (take l.index l.lists) l.rooms;
}
