use Rattle.std.proofs.Common.{◌<◌, ◌≤◌, codes, length, sym, subst, arith}
use Rattle.std.proofs.lemmas.List.{length-map}
use Rattle.std.proofs.lemmas.List.Elements.{All-get_or}
use Rattle.std.proofs.lemmas.Result.{err_from_is_err_and}
use Rattle.certificate_text.specs.PlanOf.{plan_of, plans_of}
use Rattle.certificate_text.specs.Sections.{IsWritable, section_text, sections_text}
use Rattle.certificate_text.proofs.PlanLemmas.{at_map}
use Rattle.certificate_text.proofs.RowLemmas.{one_more, one_failed, all_sent}
use Rattle.certificate_text.proofs.SentLemmas.{err_sent, then_sent}
use Rattle.certificate_text.proofs.WholeLemmas.{body_is}
use Rattle.certificate_text.proofs.certificate.put_body.Goals as goal

pub put_part-requires : goal.put_part-requires
put_part-requires g c =
    let inside : c.loop-part.part-index < length (plans_of c.args.parts.now) =
    omega (arith, length-map c.args.parts.now plan_of, c.loop-part-test.true) in
    subst IsWritable (sym (at_map plan_of c.args.parts.now c.loop-part.part-index c.part-item.result
    c.loop-part-test.true c.part-item.is))
    (All-get_or IsWritable (plans_of c.args.parts.now) c.loop-part.part-index (plan_of c.part-item.result) inside
    c.requires)

pub returns-in_err-put_part : goal.returns-in_err-put_part
returns-in_err-put_part g c =
    let p = err_from_is_err_and c.from_residual.result c.from_residual.ensures.1 in
    let plans = plans_of c.args.parts.now in
    let inside : c.loop-part.part-index < length plans =
    omega (arith, length-map c.args.parts.now plan_of, c.loop-part-test.true) in
    err_sent g.W.Write.contents c.from_residual.result p.0 c.args.sink.now c.put_part.new.sink
    (sections_text plans) (codes "end\n") _ p.1 (body_is plans)
    (one_failed g.W.Write.contents section_text c.args.sink.now c.loop-part.sink c.put_part.new.sink plans
    c.loop-part.part-index (plan_of c.part-item.result) inside
    (at_map plan_of c.args.parts.now c.loop-part.part-index c.part-item.result c.loop-part-test.true c.part-item.is)
    c.loop-part.invariant c.in_err-put_part.ensures)

pub loop-part-preserved : goal.loop-part-preserved
loop-part-preserved g c =
    let plans = plans_of c.args.parts.now in
    let inside : c.loop-part.part-index < length plans =
    omega (arith, length-map c.args.parts.now plan_of, c.loop-part-test.true) in
    one_more g.W.Write.contents section_text c.args.sink.now c.loop-part.sink c.put_part.new.sink plans
    c.loop-part.part-index (plan_of c.part-item.result) inside
    (at_map plan_of c.args.parts.now c.loop-part.part-index c.part-item.result c.loop-part-test.true c.part-item.is)
    c.loop-part.invariant c.in_ok-put_part.ensures

pub returns : goal.returns
returns g c =
    let plans = plans_of c.args.parts.now in
    let past : length plans ≤ c.loop-part.part-index =
    omega (arith, length-map c.args.parts.now plan_of, c.loop-part-test.false) in
    then_sent g.W.Write.contents c.put_text.result c.args.sink.now c.loop-part.sink c.put_text.new.self
    (sections_text plans) (codes "end\n") _ (body_is plans)
    (all_sent g.W.Write.contents section_text c.args.sink.now c.loop-part.sink plans c.loop-part.part-index past
    c.loop-part.invariant) c.put_text.ensures
