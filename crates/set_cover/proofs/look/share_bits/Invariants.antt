use Rattle.set_cover.proofs.WordLemmas.{ApartSoFar}
use Rattle.set_cover.proofs.look.share_bits.Given as goal

abbrev pub invariant-loop-index : goal.invariant-loop-index
invariant-loop-index l = ApartSoFar l.one l.two l.index
