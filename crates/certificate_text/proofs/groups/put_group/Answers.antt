use Rattle.std.proofs.Common.{arith}
use Rattle.std.proofs.lemmas.Result.{err_from_is_err_and}
use Rattle.certificate_text.specs.Lines.{group_text}
use Rattle.certificate_text.proofs.SentLemmas.{failed_before}
use Rattle.certificate_text.proofs.groups.put_group.Goals as goal

pub returns-in_err-numbers : goal.returns-in_err-numbers
returns-in_err-numbers g c =
    let p = err_from_is_err_and c.from_residual.result c.from_residual.ensures.1 in
    failed_before g.W.Write.contents c.from_residual.result p.0 c.args.sink.now (group_text c.args.group.now) p.1
    (omega arith)
