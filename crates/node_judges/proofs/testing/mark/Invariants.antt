use Rattle.std.proofs.Common.{◌≡◌, ℕ, ◌<◌, ◌++◌, length, take, Contains}
use Rattle.node_judges.proofs.testing.mark.Given as goal

abbrev pub invariant-loop-place : goal.invariant-loop-place
invariant-loop-place l = record {
  whole : length l.tally.counts ≡ length l.fn.tally.counts;
  marked : ((place : ℕ) → Contains l.places place → place < length l.fn.tally.counts)
      → l.tally.items ≡ l.fn.tally.items ++ take l.place-index l.places;
}
