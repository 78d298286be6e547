use Rattle.std.proofs.Common.{◌≡◌, ◌++◌, map, take, drop}
use Rattle.pack_bound.specs.Naming.{numbered_group}
use Rattle.tree_judges.proofs.numbering.put_group_numbers.Given as goal

abbrev pub invariant-loop-group : goal.invariant-loop-group
invariant-loop-group l = l.groups ≡ map (numbered_group l.region) (take l.group-index l.fn.groups)
    ++ drop l.group-index l.fn.groups
