use Rattle.std.proofs.Common.{length, take}
use Rattle.lit_lists.specs.Filling.{AreCounts}
use Rattle.lit_lists.proofs.counting.count_all.Given as goal

abbrev pub invariant-loop-number : goal.invariant-loop-number
invariant-loop-number l = AreCounts (length l.fn.counts) (take l.number-index l.numbers) l.counts
