use Rattle.set_cover.proofs.ApartLemmas.{HasGrown}
use Rattle.set_cover.proofs.change.add_words_apart.Given as goal

abbrev pub invariant-loop-index : goal.invariant-loop-index
invariant-loop-index l = HasGrown l.initial.words l.row l.other l.words l.index
