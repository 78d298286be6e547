use Rattle.std.proofs.Common.{take}
use Rattle.proof_check.specs.Homes.{PutsAll}
use Rattle.proof_check.proofs.homes.put_all.Given as goal

abbrev pub invariant-loop-cell : goal.invariant-loop-cell
invariant-loop-cell l = PutsAll l.number (take l.cell-index l.cells) l.fn.homes l.homes
