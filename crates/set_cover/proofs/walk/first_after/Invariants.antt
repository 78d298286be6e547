use Rattle.set_cover.proofs.WalkLemmas.{AreZero}
use Rattle.set_cover.proofs.walk.first_after.Given as goal

abbrev pub invariant-loop-index : goal.invariant-loop-index
invariant-loop-index l = AreZero l.words l.word l.index
