use Rattle.std.proofs.Common.{ℕ, ◌<◌, slice_index, Contains}
use Rattle.node_judges.proofs.testing.meet_open.Given as goal

abbrev pub invariant-loop-place : goal.invariant-loop-place
invariant-loop-place l = (k : ℕ) → k < l.place-index → Contains l.tally.items (slice_index l.places k)
    → (¬ Contains l.barred.items (slice_index l.places k)) → ⊥
