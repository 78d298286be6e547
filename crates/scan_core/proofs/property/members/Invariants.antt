use Rattle.std.proofs.Common.{◌≡◌, ◌++◌, length}
use Rattle.scan_core.specs.Named.{named_values}
use Rattle.scan_core.proofs.property.members.Given as goal

abbrev pub invariant-loop-member : goal.invariant-loop-member
invariant-loop-member l = named_values l.members.items ++ l.entries ≡ l.fn.entries

abbrev pub decreases-loop-member : goal.decreases-loop-member
decreases-loop-member l = length l.entries
