use Rattle.std.proofs.Common.{◌≡◌, length}
use Rattle.search_cases.proofs.making.row_of.Given as goal

abbrev pub invariant-loop-cell : goal.invariant-loop-cell
invariant-loop-cell l = length l.row ≡ l.width
