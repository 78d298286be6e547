use Rattle.instance_regions.proofs.SplitLemmas.{Splitting}
use Rattle.instance_regions.proofs.splitting.parts_of.Given as goal

abbrev pub invariant-loop-label : goal.invariant-loop-label
invariant-loop-label l = Splitting l.sparse l.labels.items l.label l.regions.items
