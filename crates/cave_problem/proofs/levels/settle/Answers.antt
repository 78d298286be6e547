use Rattle.std.proofs.Common.{arith, ◌+◌}
use Rattle.cave_problem.proofs.WordLemmas.{linked_fewer}
use Rattle.cave_problem.proofs.LevelLemmas.{room_kept, settling_none, settling_next, settling_all}
use Rattle.cave_problem.proofs.levels.settle.Goals as goal

pub loop-number-init : goal.loop-number-init
loop-number-init c = λ cells long linked s.
    settling_none c.args.world.now cells c.args.linked.now.reach.now c.args.level (omega (arith, c.requires.level.1))
    c.args.levels.now s

pub word_of-requires-clause-room : goal.word_of-requires-clause-room
word_of-requires-clause-room c = room_kept c.args.world.now c.args.linked.now.reach.now c.args.linked.now.near.now
    c.args.levels.now c.loop-number.levels c.args.linked.now.sources c.args.linked.now.count c.loop-number.auto.levels
    c.requires.room

pub loop-number-preserved : goal.loop-number-preserved
loop-number-preserved c = λ cells long linked s.
    (let was = c.loop-number.invariant cells long linked s in
    settling_next c.args.world.now cells c.args.linked.now.reach.now c.args.level (omega (arith, c.requires.level.1))
    c.loop-number.levels c.loop-number.number c.word_of.result
    (omega (arith, c.loop-number-test.true, c.requires.room.sized.few))
    (omega (
      arith,
      c.loop-number-test.true,
      c.requires.room.sized.few,
      c.requires.room.sized.here,
      c.loop-number.auto.levels,
      c.requires.level.1,
    ))
    (c.word_of.ensures.exact cells long
    (linked_fewer c.args.world.now cells c.args.linked.now.reach.now c.args.linked.now.near.now
    c.args.linked.now.count (c.loop-number.number + 1)
    (omega arith) linked) was.there) was)

pub returns : goal.returns
returns c = record {
  settled = λ cells long linked complete s.
      settling_all c.args.world.now cells c.args.linked.now.reach.now c.args.level (omega (arith, c.requires.level.1))
      c.loop-number.levels c.loop-number.number c.args.linked.now.count c.loop-number-test.false
      (omega (arith, c.requires.room.sized.few)) (omega arith) linked.once complete
      (c.loop-number.invariant cells long linked s);
}
