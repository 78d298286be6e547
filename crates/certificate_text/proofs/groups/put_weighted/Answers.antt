use Rattle.std.proofs.Common.{◌∷◌, [], ◌++◌, length, codes}
use Rattle.std.proofs.lemmas.Result.{err_from_is_err_and}
use Rattle.proof_rules.specs.Text.{line}
use Rattle.certificate_text.specs.Lines.{groups_text}
use Rattle.certificate_text.proofs.NodeLemmas.{weighted_text}
use Rattle.certificate_text.proofs.SentLemmas.{err_sent, then_sent}
use Rattle.certificate_text.proofs.groups.put_weighted.Goals as goal

pub returns-in_err-put_line : goal.returns-in_err-put_line
returns-in_err-put_line g c =
    let p = err_from_is_err_and c.from_residual.result c.from_residual.ensures.1 in
    let groups = c.args.groups.now in
    err_sent g.W.Write.contents c.from_residual.result p.0 c.args.sink.now c.put_line.new.self
    (line (codes "W") (length groups ∷ []) ++ 10 ∷ []) (groups_text groups) _ p.1 (weighted_text groups)
    c.in_err-put_line.ensures

pub returns : goal.returns
returns g c =
    let groups = c.args.groups.now in
    then_sent g.W.Write.contents c.put_groups.result c.args.sink.now c.put_line.new.self c.put_groups.new.sink
    (line (codes "W") (length groups ∷ []) ++ 10 ∷ []) (groups_text groups) _ (weighted_text groups)
    c.in_ok-put_line.ensures c.put_groups.ensures
