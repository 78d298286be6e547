use Rattle.std.proofs.Common.{◌≡◌, length, slice_index}
use Rattle.cave_base.specs.Box.{cell_count}
use Rattle.lit_lists.proofs.RelaxLemmas.{PassingOn}
use Rattle.lit_lists.proofs.relaxing.pass_to_all.Given as goal

abbrev pub invariant-loop-to : goal.invariant-loop-to
invariant-loop-to l = record {
  cells : length l.levels ≡ cell_count l.world.size;
  passing : PassingOn l.world l.from (slice_index l.fn.levels) l.fn.queue.items (slice_index l.levels)
      l.queue.items l.to-items l.to-index;
}
