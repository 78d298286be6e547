use Rattle.instance_regions.proofs.TreeLemmas.{Finding}
use Rattle.instance_regions.proofs.joining.find.Given as goal

abbrev pub invariant-loop-parents : goal.invariant-loop-parents
invariant-loop-parents l = Finding l.initial.parents l.cell l.at l.parents

abbrev pub decreases-loop-parents : goal.decreases-loop-parents
decreases-loop-parents l = l.at
