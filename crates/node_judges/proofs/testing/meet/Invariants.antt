use Rattle.std.proofs.Common.{ℕ, ◌<◌, slice_index, Contains}
use Rattle.node_judges.proofs.testing.meet.Given as goal

abbrev pub invariant-loop-place : goal.invariant-loop-place
invariant-loop-place l = (k : ℕ) → k < l.place-index → ¬ Contains l.tally.items (slice_index l.places k)
