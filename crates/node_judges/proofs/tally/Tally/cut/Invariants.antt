use Rattle.std.proofs.Common.{◌≡◌, length, take}
use Rattle.node_judges.proofs.tally.Tally.cut.Given as goal

abbrev pub invariant-loop-self : goal.invariant-loop-self
invariant-loop-self l = record {
  whole : length l.self.counts ≡ length l.fn.self.counts;
  items : take l.count l.self.items ≡ take l.count l.fn.self.items;
}

abbrev pub decreases-loop-self : goal.decreases-loop-self
decreases-loop-self l = length l.self.items
