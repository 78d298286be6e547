use Rattle.std.proofs.Common.{string_bytes, rules}
use Rattle.std.proofs.lemmas.Result.{err_from_is_err_and}
use Rattle.certificate_text.specs.PlanOf.{plans_of}
use Rattle.certificate_text.specs.Planned.{certificate_text}
use Rattle.certificate_text.proofs.WholeLemmas.{best_are_writable, front_of_empty, front_where_failed}
use Rattle.certificate_text.proofs.certificate.write_certificate.Goals as goal

pub put_certificate-requires : goal.put_certificate-requires
put_certificate-requires g c = best_are_writable c.args.world.now (plans_of c.args.parts.now) c.requires

pub returns-in_err-put_certificate-clause-begun : goal.returns-in_err-put_certificate-clause-begun
returns-in_err-put_certificate-clause-begun g c =
    let p = err_from_is_err_and c.from_residual.result c.from_residual.ensures.1 in
    rw p.1 (front_of_empty (g.W.Write.contents c.args.writer.now) (g.W.Write.contents _)
    (string_bytes c.new-buffer.result) (certificate_text c.args.world.now (plans_of c.args.parts.now))
    c.new-buffer.ensures.bytes (search rules))

pub returns-clause-begun : goal.returns-clause-begun
returns-clause-begun g c =
    front_where_failed c.flush.result (g.W.Write.contents c.args.writer.now)
    (g.W.Write.contents c.put_certificate.new.sink.writer.now) (g.W.Write.contents _)
    (string_bytes c.new-buffer.result) (string_bytes c.put_certificate.new.sink.buffer.now)
    (certificate_text c.args.world.now (plans_of c.args.parts.now)) c.new-buffer.ensures.bytes
    c.in_ok-put_certificate.ensures.passed (search rules)
