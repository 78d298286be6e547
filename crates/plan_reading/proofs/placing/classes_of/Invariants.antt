use Rattle.std.proofs.Common.{◌≡◌, take}
use Rattle.plan_reading.proofs.placing.classes_of.Given as goal

-- the classes of the cells so far
abbrev pub invariant-loop-cell : goal.invariant-loop-cell
invariant-loop-cell l = l.classes.items ≡ take l.cell l.world.classes
