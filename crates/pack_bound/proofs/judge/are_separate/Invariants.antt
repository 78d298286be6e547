use Rattle.std.proofs.Common.{take}
use Rattle.pack_bound.proofs.JudgeLemmas.{AreLitApart}
use Rattle.pack_bound.proofs.judge.are_separate.Given as goal

abbrev pub invariant-loop-cell : goal.invariant-loop-cell
invariant-loop-cell l = AreLitApart l.region l.node.barred (take l.cell-index l.cells) l.lighting
