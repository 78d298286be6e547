use Rattle.std.proofs.Common.{◌≡◌, map, take}
use Rattle.cave_reading.specs.Building.{class_by}
use Rattle.cave_reading.proofs.building.cell_classes.Given as goal

abbrev pub invariant-loop-cell : goal.invariant-loop-cell
invariant-loop-cell l = l.all.items ≡ map (class_by l.classes) (take l.cell-index l.cells)
