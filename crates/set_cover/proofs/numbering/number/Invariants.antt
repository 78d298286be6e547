use Rattle.set_cover.proofs.NumberLemmas.{Numbering}
use Rattle.set_cover.proofs.numbering.number.Given as goal

abbrev pub invariant-loop-index : goal.invariant-loop-index
invariant-loop-index l = Numbering l.initial.indices l.cells l.index l.indices
