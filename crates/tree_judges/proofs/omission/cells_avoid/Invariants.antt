use Rattle.std.proofs.Common.{take}
use Rattle.tree_judges.specs.Omission.{CellsAvoid}
use Rattle.tree_judges.proofs.omission.cells_avoid.Given as goal

abbrev pub invariant-loop-index : goal.invariant-loop-index
invariant-loop-index l = CellsAvoid l.omitted (take l.index l.cells)
