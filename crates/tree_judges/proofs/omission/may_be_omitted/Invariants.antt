use Rattle.tree_judges.proofs.OmissionLemmas.{AreOmittedTo}
use Rattle.tree_judges.proofs.omission.may_be_omitted.Given as goal

abbrev pub invariant-loop-index : goal.invariant-loop-index
invariant-loop-index l = AreOmittedTo l.region l.cells l.index
