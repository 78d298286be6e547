use Rattle.std.proofs.Common.{◌≡◌, map, take, slice_index}
use Rattle.instance_regions.proofs.restricting.chosen.Given as goal

abbrev pub invariant-loop-index : goal.invariant-loop-index
invariant-loop-index l = l.these.items ≡ map (slice_index l.items) (take l.index-index l.indices)
