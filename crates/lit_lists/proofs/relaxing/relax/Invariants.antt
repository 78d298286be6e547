use Rattle.std.proofs.Common.{◌≡◌, ◌-◌, length, slice_index}
use Rattle.cave_base.specs.Box.{cell_count}
use Rattle.lit_lists.proofs.RoundLemmas.{Rounds}
use Rattle.lit_lists.proofs.relaxing.relax.Given as goal

abbrev pub invariant-loop : goal.invariant-loop
invariant-loop l = record {
  cells : length l.levels ≡ cell_count l.world.size;
  rounds : Rounds l.world (slice_index l.fn.levels) (slice_index l.levels) l.queue.items l.begin (15 - l.counter);
}
