use Rattle.std.proofs.Common.{◌<◌, length, take, All, Contains}
use Rattle.node_judges.specs.Settings.{left_in}
use Rattle.node_judges.proofs.testing.are_left.Given as goal

abbrev pub invariant-loop-cell : goal.invariant-loop-cell
invariant-loop-cell l = record {
  left : All (Contains (left_in l.setting)) (take l.cell-index l.cells);
  inside : All (λ cell. cell < length l.setting.region.now.counts) (take l.cell-index l.cells);
}
