use Rattle.instance_regions.specs.Columns.{AreColumns}
use Rattle.instance_regions.proofs.columns.columns_of.Given as goal

abbrev pub invariant-loop-place : goal.invariant-loop-place
invariant-loop-place l = AreColumns l.instance l.place l.columns.items
