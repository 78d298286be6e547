use Rattle.cave_reading.specs.Building.{AreClassesOf}
use Rattle.cave_reading.proofs.building.state_classes.Given as goal

abbrev pub invariant-loop-index : goal.invariant-loop-index
invariant-loop-index l = AreClassesOf l.scan.cells l.palette l.rows l.index l.classes.items
