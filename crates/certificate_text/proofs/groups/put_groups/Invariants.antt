use Rattle.certificate_text.specs.Lines.{group_text}
use Rattle.certificate_text.proofs.RowLemmas.{SentTo}
use Rattle.certificate_text.proofs.groups.put_groups.Given as goal

abbrev pub invariant-loop-group : goal.invariant-loop-group
invariant-loop-group g l = SentTo g.W.Write.contents group_text l.initial.sink l.sink l.groups l.group-index
