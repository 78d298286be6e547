use Rattle.std.proofs.Common.{◌≡◌, ◌≤◌, ◌*◌, take}
use Rattle.proof_rules.specs.Groups.{weight_of}
use Rattle.weight_judge.proofs.needed.weight.Given as goal

abbrev pub invariant-loop-share : goal.invariant-loop-share
invariant-loop-share l = (l.total ≡ weight_of (take l.share-index l.shares)) × (l.total ≤ l.share-index * 4294967295)
