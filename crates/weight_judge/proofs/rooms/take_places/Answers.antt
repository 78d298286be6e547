use Rattle.std.proofs.Common.{◌≡◌, slice_index}
use Rattle.weight_judge.specs.Rooms.{IsTaken, LacksRoom, room_at}
use Rattle.weight_judge.proofs.Branches.{on, off}
use Rattle.weight_judge.proofs.RoomLemmas.{taken_next, lacked}
use Rattle.weight_judge.proofs.rooms.take_places.Goals as goal

pub loop-place-preserved : goal.loop-place-preserved
loop-place-preserved c =
    let place = slice_index c.args.places.now c.loop-place.place-index in
    taken_next c.args.places.now c.loop-place.place-index c.args.claim c.args.rooms.now c.loop-place.rooms
    c.take.new.self c.requires.once c.loop-place-test.true c.loop-place.invariant
    (on c.take.result (IsTaken place c.args.claim c.loop-place.rooms c.take.new.self)
    (LacksRoom c.args.claim (room_at c.loop-place.rooms place) × (c.take.new.self ≡ c.loop-place.rooms))
    c.if-not-take.false c.take.ensures)

pub returns-then-not-take : goal.returns-then-not-take
returns-then-not-take c =
    let place = slice_index c.args.places.now c.loop-place.place-index in
    lacked c.args.places.now c.loop-place.place-index c.args.claim c.args.rooms.now c.loop-place.rooms
    c.requires.once c.loop-place-test.true c.loop-place.invariant
    (off c.take.result (IsTaken place c.args.claim c.loop-place.rooms c.take.new.self)
    (LacksRoom c.args.claim (room_at c.loop-place.rooms place) × (c.take.new.self ≡ c.loop-place.rooms))
    c.if-not-take.true c.take.ensures).0
