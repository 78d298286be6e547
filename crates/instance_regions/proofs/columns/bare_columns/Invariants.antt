use Rattle.instance_regions.proofs.ColumnLemmas.{AreBare}
use Rattle.instance_regions.proofs.columns.bare_columns.Given as goal

abbrev pub invariant-loop-cell : goal.invariant-loop-cell
invariant-loop-cell l = AreBare l.height l.cell l.columns.items
