use Rattle.std.proofs.Common.{◌≡◌, map, take, slice_index}
use Rattle.tree_judges.proofs.thinning.places_at.Given as goal

abbrev pub invariant-loop-index : goal.invariant-loop-index
invariant-loop-index l = l.places.items ≡ map (slice_index l.all) (take l.index-index l.kept)
