use Rattle.std.proofs.Common.{◌<◌, length, ◌∙◌, ap, max, ℕ, arith}
use Rattle.std.proofs.lemmas.List.{length-map}
use Rattle.certificate_text.specs.PlanOf.{plan_of, plans_of}
use Rattle.certificate_text.specs.Planned.{version_needed}
use Rattle.certificate_text.proofs.PlanLemmas.{at_map, next_version, last_version}
use Rattle.certificate_text.proofs.certificate.version_needed.Goals as goal

pub loop-part-preserved : goal.loop-part-preserved
loop-part-preserved c =
    let plans = plans_of c.args.parts.now in let i = c.loop-part.part-index in
    let inside : i < length plans = omega (arith, length-map c.args.parts.now plan_of, c.loop-part-test.true) in
    next_version c.loop-part.version (version_needed c.args.world.now.rule.need plans) plans i
    (plan_of c.part-item.result) c.max-version.result inside
    (at_map plan_of c.args.parts.now i c.part-item.result c.loop-part-test.true c.part-item.is)
    c.loop-part.invariant
    (c.max-version.ensures ∙ ap (λ (n : ℕ). max n c.loop-part.version) c.part_version.ensures)

pub returns : goal.returns
returns c =
    let plans = plans_of c.args.parts.now in
    last_version c.loop-part.version (version_needed c.args.world.now.rule.need plans) plans c.loop-part.part-index
    (omega (arith, length-map c.args.parts.now plan_of, c.loop-part-test.false)) c.loop-part.invariant
