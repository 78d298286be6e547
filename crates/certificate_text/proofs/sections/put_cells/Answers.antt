use Rattle.std.proofs.Common.{arith}
use Rattle.std.proofs.lemmas.Result.{err_from_is_err_and}
use Rattle.std.proofs.Common.{◌∷◌, [], ◌++◌, length-append}
use Rattle.proof_rules.specs.Text.{line}
use Rattle.certificate_text.proofs.SentLemmas.{failed_before}
use Rattle.certificate_text.proofs.sections.put_cells.Goals as goal

pub returns-in_err-numbers : goal.returns-in_err-numbers
returns-in_err-numbers g c =
    let p = err_from_is_err_and c.from_residual.result c.from_residual.ensures.1 in
    let text = line c.args.word.now c.args.cells.now in
    failed_before g.W.Write.contents c.from_residual.result p.0 c.args.sink.now (text ++ 10 ∷ []) p.1
    (omega (arith, length-append text (10 ∷ [])))
