use Rattle.std.proofs.Common.{◌≡◌, slice_index}
use Rattle.weight_judge.specs.Rooms.{IsTaken, LacksRoom, room_at}
use Rattle.weight_judge.proofs.Branches.{on, off}
use Rattle.node_judges.proofs.LoadLemmas.{change_all, taken_more, taken_skip, lacked_free}
use Rattle.node_judges.proofs.TestLemmas.{off_true}
use Rattle.node_judges.proofs.loads.take_open.Goals.{else-not-take-via-then-not-take+else-not-has}
use Rattle.node_judges.proofs.loads.take_open.Goals.{else-not-take-via-else-not-take}
use Rattle.node_judges.proofs.loads.take_open.Goals as goal

pub returns-then-not-has-clause-taken : goal.returns-then-not-has-clause-taken
returns-then-not-has-clause-taken c =
    let place = slice_index c.args.places.now c.loop-place.place-index in
    lacked_free c.args.places.now c.args.barred.now.items c.loop-place.place-index c.args.claim c.args.rooms.now
    c.loop-place.rooms c.requires.once c.loop-place-test.true c.loop-place.invariant
    (λ has. off_true c.has.result c.if-not-has.true (c.has.ensures.has.1 has))
    (off c.take.result (IsTaken place c.args.claim c.loop-place.rooms c.take.new.self)
    (LacksRoom c.args.claim (room_at c.loop-place.rooms place) × (c.take.new.self ≡ c.loop-place.rooms))
    c.if-not-take.true c.take.ensures).0

pub returns-then-not-has-clause-change : goal.returns-then-not-has-clause-change
returns-then-not-has-clause-change c =
    let place = slice_index c.args.places.now c.loop-place.place-index in
    change_all c.args.places.now c.loop-place.place-index c.args.rooms.now c.loop-place.rooms c.take.new.self
    c.loop-place.invariant.change
    (off c.take.result (IsTaken place c.args.claim c.loop-place.rooms c.take.new.self)
    (LacksRoom c.args.claim (room_at c.loop-place.rooms place) × (c.take.new.self ≡ c.loop-place.rooms))
    c.if-not-take.true c.take.ensures).1

pub loop-place-preserved : goal.loop-place-preserved
loop-place-preserved c =
    let place = slice_index c.args.places.now c.loop-place.place-index in
    elim c.else-not-take.branch [
      | else-not-take-via-then-not-take+else-not-has w ↦ taken_skip c.args.places.now c.args.barred.now.items
          c.loop-place.place-index c.args.claim c.args.rooms.now c.loop-place.rooms c.requires.once
          c.loop-place-test.true c.loop-place.invariant c.take.new.self
          (off c.take.result (IsTaken place c.args.claim c.loop-place.rooms c.take.new.self)
          (LacksRoom c.args.claim (room_at c.loop-place.rooms place) × (c.take.new.self ≡ c.loop-place.rooms))
          w.if-not-take.true c.take.ensures).1
          (w.has.ensures.has.0 w.if-not-has.false)
      | else-not-take-via-else-not-take w ↦ taken_more c.args.places.now c.args.barred.now.items
          c.loop-place.place-index c.args.claim c.args.rooms.now c.loop-place.rooms c.requires.once
          c.loop-place-test.true c.loop-place.invariant c.take.new.self
          (on c.take.result (IsTaken place c.args.claim c.loop-place.rooms c.take.new.self)
          (LacksRoom c.args.claim (room_at c.loop-place.rooms place) × (c.take.new.self ≡ c.loop-place.rooms))
          w.if-not-take.false c.take.ensures)
    ]
