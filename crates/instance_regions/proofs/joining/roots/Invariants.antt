use Rattle.instance_regions.proofs.TreeLemmas.{RootsTo}
use Rattle.instance_regions.proofs.joining.roots.Given as goal

abbrev pub invariant-loop-cell : goal.invariant-loop-cell
invariant-loop-cell l = RootsTo l.initial.parents l.cell l.parents l.labels.items
