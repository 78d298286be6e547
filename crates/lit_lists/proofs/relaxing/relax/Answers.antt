use Rattle.std.proofs.Common.{◌-◌, ◌+◌, ◌∙◌, slice_index, arith}
use Rattle.lit_lists.proofs.RoundLemmas.{rounds_start, rounds_next, rounds_end}
use Rattle.lit_lists.proofs.relaxing.relax.Goals as goal

pub loop-init : goal.loop-init
loop-init c = record {
  cells = c.requires.cells;
  rounds = rounds_start c.args.world.now (slice_index c.args.levels.now)
      c.args.queue.now.items c.requires.seeded;
}

pub loop-preserved : goal.loop-preserved
loop-preserved c = record {
  cells = c.round.auto.levels ∙ c.loop.invariant.cells;
  rounds = rounds_next c.args.world.now (slice_index c.args.levels.now) (slice_index c.loop.levels)
      (slice_index c.round.new.levels) c.loop.queue.items c.round.new.queue.items c.loop.begin c.in_ok-begin.begin
      (15 - c.loop.counter) (15 - (c.loop.counter + 1))
      c.loop.invariant.rounds c.in_ok-begin.ensures.relaxes c.in_ok-begin.ensures.begun.queued
      c.in_ok-begin.ensures.begun.low
      (omega arith);
}

pub returns : goal.returns
returns c = record {
  settled = rounds_end c.args.world.now (slice_index c.args.levels.now)
      (slice_index c.loop.levels) c.loop.queue.items c.loop.begin (15 - c.loop.counter)
      (omega arith) c.loop.invariant.rounds;
}
