use Rattle.std.proofs.Common.{◌≡◌, length, take}
use Rattle.node_judges.specs.Tests.{AreLitBy}
use Rattle.node_judges.proofs.testing.mark_lit.Given as goal

abbrev pub invariant-loop-place : goal.invariant-loop-place
invariant-loop-place l = record {
  whole : length l.tally.counts ≡ length l.fn.tally.counts;
  lit : AreLitBy l.lists (take l.place-index l.places) l.tally.items;
}
