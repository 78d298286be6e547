use Rattle.certificate_text.specs.PlanOf.{plans_of}
use Rattle.certificate_text.specs.Sections.{section_text}
use Rattle.certificate_text.proofs.RowLemmas.{SentTo}
use Rattle.certificate_text.proofs.certificate.put_body.Given as goal

abbrev pub invariant-loop-part : goal.invariant-loop-part
invariant-loop-part g l = SentTo g.W.Write.contents section_text l.initial.sink l.sink (plans_of l.parts) l.part-index
