use Rattle.std.proofs.Common.{codes}
use Rattle.std.proofs.lemmas.Result.{err_from_is_err_and}
use Rattle.proof_tree.specs.Order.{in_order}
use Rattle.proof_tree.specs.Shape.{tree_of}
use Rattle.certificate_text.specs.Lines.{tree_text}
use Rattle.certificate_text.specs.Sections.{cells_text}
use Rattle.certificate_text.proofs.SectionLemmas.{proved_is}
use Rattle.certificate_text.proofs.SentLemmas.{err_sent, then_sent}
use Rattle.certificate_text.proofs.sections.put_proved.Goals as goal

pub returns-in_err-put_torches : goal.returns-in_err-put_torches
returns-in_err-put_torches g c =
    let p = err_from_is_err_and c.from_residual.result c.from_residual.ensures.1 in
    err_sent g.W.Write.contents c.from_residual.result p.0 c.args.sink.now c.put_torches.new.sink
    (cells_text (codes "T") (in_order c.args.torches.now))
    (tree_text (tree_of c.args.proof.now)) _ p.1 (proved_is c.args.torches.now (tree_of c.args.proof.now))
    c.in_err-put_torches.ensures

pub returns : goal.returns
returns g c =
    then_sent g.W.Write.contents c.put_tree.result c.args.sink.now c.put_torches.new.sink c.put_tree.new.sink
    (cells_text (codes "T") (in_order c.args.torches.now))
    (tree_text (tree_of c.args.proof.now)) _ (proved_is c.args.torches.now (tree_of c.args.proof.now))
    c.in_ok-put_torches.ensures c.put_tree.ensures
