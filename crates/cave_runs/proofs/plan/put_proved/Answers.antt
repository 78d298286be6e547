use Rattle.std.proofs.Common.{string_bytes}
use Rattle.std.proofs.lemmas.Result.{err_from_is_err_and}
use Rattle.certificate_text.specs.PlanOf.{plans_of}
use Rattle.cave_runs.specs.Streams.{outputs, stream}
use Rattle.cave_runs.proofs.PlanRunLemmas.{certificate_failed, text_failed_in, written_in}
use Rattle.cave_runs.proofs.plan.put_proved.Goals as goal

pub returns-in_err-write_certificate-clause-left : goal.returns-in_err-write_certificate-clause-left
returns-in_err-write_certificate-clause-left g c =
    let p = err_from_is_err_and c.from_residual.result c.from_residual.ensures.1 in
    rw (p.1, p.2) (certificate_failed c.in_err-write_certificate.field-0.0 c.args.world.now
    (string_bytes c.args.outline.now.text) (plans_of c.args.outline.now.parts.items)
    (g.W.Write.contents c.args.writer.now)
    (stream (g.V.Write.contents c.args.proof.now) (g.V.Write.contents c.write_certificate.new.writer)) c.requires
    (rw c.deref.ensures.value at c.in_err-write_certificate.ensures.begun))

pub returns-clause-done : goal.returns-clause-done
returns-clause-done g c =
    written_in c.put_all.result c.args.world.now (string_bytes c.args.outline.now.text)
    (plans_of c.args.outline.now.parts.items)
    (outputs (stream (g.W.Write.contents c.args.writer.now) (g.W.Write.contents c.put_all.new.writer))
    (stream (g.V.Write.contents c.args.proof.now) (g.V.Write.contents c.write_certificate.new.writer))) c.requires
    (rw c.as_bytes.ensures.value at c.put_all.ensures.ok)
    (rw c.deref.ensures.value at c.in_ok-write_certificate.ensures.done)

pub returns-clause-left : goal.returns-clause-left
returns-clause-left g c =
    text_failed_in c.put_all.result c.args.world.now (string_bytes c.args.outline.now.text)
    (plans_of c.args.outline.now.parts.items)
    (outputs (stream (g.W.Write.contents c.args.writer.now) (g.W.Write.contents c.put_all.new.writer))
    (stream (g.V.Write.contents c.args.proof.now) (g.V.Write.contents c.write_certificate.new.writer))) c.requires
    c.put_all.ensures.err (rw c.as_bytes.ensures.value at c.put_all.ensures.begun)
    (rw c.deref.ensures.value at c.in_ok-write_certificate.ensures.done)
