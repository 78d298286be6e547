use Rattle.std.proofs.Common.{◌∷◌, [], ◌++◌, length-append, arith}
use Rattle.std.proofs.lemmas.Result.{err_from_is_err_and}
use Rattle.proof_rules.specs.Text.{line}
use Rattle.certificate_text.proofs.SentLemmas.{failed_before}
use Rattle.certificate_text.proofs.sink.Sink.put_line.Goals as goal

pub returns-in_err-text : goal.returns-in_err-text
returns-in_err-text g c =
    let p = err_from_is_err_and c.from_residual.result c.from_residual.ensures.1 in
    let text = line c.args.word.now c.args.numbers.now in
    failed_before g.W.Write.contents c.from_residual.result p.0 c.args.self.now (text ++ 10 ∷ []) p.1
    (omega (arith, length-append text (10 ∷ [])))
