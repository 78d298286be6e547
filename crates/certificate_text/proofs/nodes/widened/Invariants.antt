use Rattle.std.proofs.Common.{◌≡◌, take}
use Rattle.certificate_text.proofs.nodes.widened.Given as goal

abbrev pub invariant-loop-cell : goal.invariant-loop-cell
invariant-loop-cell l = l.numbers.items ≡ take l.cell-index l.cells
