use Rattle.std.proofs.Common.{take}
use Rattle.tree_judges.specs.Omission.{SharesAvoid}
use Rattle.tree_judges.proofs.omission.shares_avoid.Given as goal

abbrev pub invariant-loop-index : goal.invariant-loop-index
invariant-loop-index l = SharesAvoid l.omitted (take l.index l.shares)
