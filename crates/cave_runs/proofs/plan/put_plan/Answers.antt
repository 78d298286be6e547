use Rattle.std.proofs.Common.{string_bytes}
use Rattle.std.proofs.lemmas.Result.{err_from_is_err_and}
use Rattle.certificate_text.specs.PlanOf.{plans_of}
use Rattle.cave_runs.specs.Streams.{stream}
use Rattle.cave_runs.proofs.PlanRunLemmas.{stop_failed}
use Rattle.cave_runs.proofs.plan.put_plan.Goals as goal

pub returns-in_err-put_all-clause-left : goal.returns-in_err-put_all-clause-left
returns-in_err-put_all-clause-left g c =
    let p = err_from_is_err_and c.from_residual.result c.from_residual.ensures.1 in
    rw (p.1, p.2) (stop_failed c.in_err-put_all.field-0.0 c.args.world.now c.args._allowance
    (string_bytes c.args.outline.now.text) (plans_of c.args.outline.now.parts.items)
    (stream (g.W.Write.contents c.args.writer.now) (g.W.Write.contents c.put_all.new.writer))
    (g.V.Write.contents c.args.proof.now)
    c.in_err-put_all.ensures.err (rw c.if-outline.true at c.requires.shows)
    (rw c.as_bytes.ensures.value at c.in_err-put_all.ensures.begun))
