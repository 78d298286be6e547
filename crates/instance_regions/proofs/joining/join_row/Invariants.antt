use Rattle.instance_regions.proofs.TreeLemmas.{JoiningRow}
use Rattle.instance_regions.proofs.joining.join_row.Given as goal

abbrev pub invariant-loop-cell : goal.invariant-loop-cell
invariant-loop-cell l = JoiningRow l.sparse l.place l.cell-index l.initial.parents l.parents
