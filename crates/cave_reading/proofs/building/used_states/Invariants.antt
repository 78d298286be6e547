use Rattle.std.proofs.Common.{length, take}
use Rattle.cave_reading.specs.Building.{AreUsed}
use Rattle.cave_reading.proofs.building.used_states.Given as goal

abbrev pub invariant-loop-cell : goal.invariant-loop-cell
invariant-loop-cell l = AreUsed (take l.cell-index l.cell-items) (length l.scan.palette) l.used.items
