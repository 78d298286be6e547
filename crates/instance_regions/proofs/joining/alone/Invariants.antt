use Rattle.instance_regions.specs.Joining.{AreAlone}
use Rattle.instance_regions.proofs.joining.alone.Given as goal

abbrev pub invariant-loop-cell : goal.invariant-loop-cell
invariant-loop-cell l = AreAlone l.cell l.parents.items
