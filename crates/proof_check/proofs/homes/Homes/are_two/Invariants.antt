use Rattle.proof_check.proofs.HomeLemmas.{Seeing}
use Rattle.proof_check.proofs.homes.Homes.are_two.Given as goal

abbrev pub invariant-loop-cell : goal.invariant-loop-cell
invariant-loop-cell l = Seeing l.self l.cells l.cell-index l.seen
