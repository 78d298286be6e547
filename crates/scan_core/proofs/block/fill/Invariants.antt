use Rattle.cave_base.specs.Box as grid
use Rattle.scan_core.proofs.FillLemmas.{AreFilled}
use Rattle.scan_core.proofs.block.fill.Given as goal

abbrev pub invariant-loop-index : goal.invariant-loop-index
invariant-loop-index l = AreFilled (grid.point l.size) l.states l.fn.entries l.index l.entries l.cells
