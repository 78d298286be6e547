use Rattle.std.proofs.Common.{◌↔◌, length}
use Rattle.certificate_lines.specs.Shares.{AreSharesIn}
use Rattle.certificate_lines.proofs.group.are_shares.Given as goal

abbrev pub invariant-loop-cell : goal.invariant-loop-cell
invariant-loop-cell l = AreSharesIn l.count l.least l.rest ↔ AreSharesIn l.count l.fn.from l.fn.numbers

abbrev pub decreases-loop-cell : goal.decreases-loop-cell
decreases-loop-cell l = length l.rest
