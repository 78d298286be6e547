use Rattle.std.proofs.Common.{take}
use Rattle.node_judges.specs.Weighed.{HaveCapacities}
use Rattle.node_judges.proofs.weighted.have_capacities.Given as goal

abbrev pub invariant-loop-group : goal.invariant-loop-group
invariant-loop-group l = HaveCapacities (take l.group-index l.groups)
