use Rattle.std.proofs.Common.{take}
use Rattle.instance_regions.specs.Restricting.{IsOfRanks}
use Rattle.instance_regions.proofs.copying.row_with.Given as goal

abbrev pub invariant-loop-cell : goal.invariant-loop-cell
invariant-loop-cell l = IsOfRanks (take l.cell-index l.cells) l.ranks l.width l.row
