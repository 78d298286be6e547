use Rattle.std.proofs.Common.{◌≡◌, length, slice_index}
use Rattle.cave_base.specs.Box.{cell_count}
use Rattle.lit_lists.proofs.RoundLemmas.{Going}
use Rattle.lit_lists.proofs.relaxing.round.Given as goal

abbrev pub invariant-loop-index : goal.invariant-loop-index
invariant-loop-index l = record {
  cells : length l.levels ≡ cell_count l.world.size;
  going : Going l.world (slice_index l.fn.levels) l.fn.queue.items l.begin l.end (slice_index l.levels)
      l.queue.items l.index;
}
