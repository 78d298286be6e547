use Rattle.std.proofs.Common.{take}
use Rattle.tree_judges.specs.Omission.{GroupsAvoid}
use Rattle.tree_judges.proofs.omission.groups_avoid.Given as goal

abbrev pub invariant-loop-index : goal.invariant-loop-index
invariant-loop-index l = GroupsAvoid l.omitted (take l.index l.groups)
