use Rattle.std.proofs.Common.{length}
use Rattle.certificate_text.proofs.WritingLemmas.{Put}
use Rattle.certificate_text.proofs.writing.put_all.Given as goal

abbrev pub invariant-loop-rest : goal.invariant-loop-rest
invariant-loop-rest g l = Put (g.W.Write.contents l.initial.writer) (g.W.Write.contents l.writer) l.text l.rest

abbrev pub decreases-loop-rest : goal.decreases-loop-rest
decreases-loop-rest g l = length l.rest
