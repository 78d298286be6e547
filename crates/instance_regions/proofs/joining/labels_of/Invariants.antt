use Rattle.instance_regions.proofs.TreeLemmas.{Joined}
use Rattle.instance_regions.proofs.joining.labels_of.Given as goal

abbrev pub invariant-loop-place : goal.invariant-loop-place
invariant-loop-place l = Joined l.sparse l.place l.parents
