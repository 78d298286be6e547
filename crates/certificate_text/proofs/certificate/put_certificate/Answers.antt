use Rattle.std.proofs.Common.{◌++◌, ◌∙◌, ℕ, List, length, ap, sym}
use Rattle.std.proofs.lemmas.List.{length-map}
use Rattle.std.proofs.lemmas.Result.{err_from_is_err_and}
use Rattle.certificate_text.specs.Heading.{heading_text}
use Rattle.certificate_text.specs.PlanOf.{plan_of, plans_of}
use Rattle.certificate_text.specs.Planned.{version_at, version_of, certificate_text}
use Rattle.certificate_text.specs.Sections.{body_text}
use Rattle.certificate_text.proofs.SentLemmas.{err_sent, then_sent, failed_before}
use Rattle.certificate_text.proofs.WholeLemmas.{certificate_is, certificate_some}
use Rattle.certificate_text.proofs.certificate.put_certificate.Goals as goal

pub returns-in_err-put_text : goal.returns-in_err-put_text
returns-in_err-put_text g c =
    let p = err_from_is_err_and c.from_residual-in_err-put_text.result c.from_residual-in_err-put_text.ensures.1 in
    let plans = plans_of c.args.parts.now in let need = c.args.world.now.rule.need in
    let body = body_text plans in
    let text = ap (λ (l : List ℕ). l ++ body) (c.as_str.ensures.value ∙ c.in_ok-heading.ensures
    ∙ ap (λ (n : ℕ). heading_text c.args.world.now (length c.args.parts.now) (version_at need n))
    c.version_needed-version.ensures
    ∙ ap (λ (n : ℕ). heading_text c.args.world.now n (version_of need plans))
    (sym (length-map c.args.parts.now plan_of)))
    ∙ certificate_is c.args.world.now plans in
    err_sent g.W.Write.contents c.from_residual-in_err-put_text.result p.0 c.args.sink.now c.put_text.new.self
    c.as_str.result.now body (certificate_text c.args.world.now plans) p.1 text c.in_err-put_text.ensures

pub returns : goal.returns
returns g c =
    let plans = plans_of c.args.parts.now in let need = c.args.world.now.rule.need in
    let body = body_text plans in
    let text = ap (λ (l : List ℕ). l ++ body) (c.as_str.ensures.value ∙ c.in_ok-heading.ensures
    ∙ ap (λ (n : ℕ). heading_text c.args.world.now (length c.args.parts.now) (version_at need n))
    c.version_needed-version.ensures
    ∙ ap (λ (n : ℕ). heading_text c.args.world.now n (version_of need plans))
    (sym (length-map c.args.parts.now plan_of)))
    ∙ certificate_is c.args.world.now plans in
    then_sent g.W.Write.contents c.put_body.result c.args.sink.now c.put_text.new.self c.put_body.new.sink
    c.as_str.result.now body (certificate_text c.args.world.now plans) text c.in_ok-put_text.ensures c.put_body.ensures

pub returns-in_err-heading : goal.returns-in_err-heading
returns-in_err-heading g c =
    let p = err_from_is_err_and c.from_residual.result c.from_residual.ensures.1 in
    let plans = plans_of c.args.parts.now in
    failed_before g.W.Write.contents c.from_residual.result p.0 c.args.sink.now
    (certificate_text c.args.world.now plans) p.1 (certificate_some c.args.world.now plans)
