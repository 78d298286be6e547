use Rattle.std.proofs.Common.{◌≡◌, map, take}
use Rattle.block_rows.proofs.shipped.conditions.Given as goal

abbrev pub invariant-loop-property : goal.invariant-loop-property
invariant-loop-property l = l.asked.items ≡ map (λ pair. (pair.0.now, pair.1.now)) (take l.property-index l.when)
