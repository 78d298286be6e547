use Rattle.std.proofs.Common.{◌≡◌, ◌≤◌, ◌*◌, length, take}
use Rattle.proof_rules.specs.Groups.{all_cells_of, places_for_all}
use Rattle.weight_judge.proofs.needed.places_for_all.Given as goal

abbrev pub invariant-loop-group : goal.invariant-loop-group
invariant-loop-group l = (l.total ≡ places_for_all (take l.group-index l.groups))
    × (l.total ≤ length (all_cells_of (take l.group-index l.groups)) * 4294967295)
