use Rattle.certificate_text.specs.PlanOf.{plans_of}
use Rattle.certificate_text.specs.Planned.{version_needed}
use Rattle.certificate_text.proofs.PlanLemmas.{IsVersionSoFar}
use Rattle.certificate_text.proofs.certificate.version_needed.Given as goal

abbrev pub invariant-loop-part : goal.invariant-loop-part
invariant-loop-part l = IsVersionSoFar l.version (version_needed l.world.rule.need (plans_of l.parts))
    (plans_of l.parts) l.part-index
