use Rattle.std.proofs.Common.{slice_index}
use Rattle.set_cover.proofs.CountLemmas.{Counting}
use Rattle.set_cover.proofs.counting.count.Given as goal

abbrev pub invariant-loop-word : goal.invariant-loop-word
invariant-loop-word l = Counting (slice_index l.words) l.word-index l.total
