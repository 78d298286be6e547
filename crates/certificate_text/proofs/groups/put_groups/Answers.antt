use Rattle.std.proofs.lemmas.Result.{err_from_is_err_and}
use Rattle.certificate_text.specs.Lines.{group_text}
use Rattle.certificate_text.proofs.RowLemmas.{one_more, one_failed, all_sent}
use Rattle.certificate_text.proofs.groups.put_groups.Goals as goal

pub returns-in_err-put_group : goal.returns-in_err-put_group
returns-in_err-put_group g c =
    let p = err_from_is_err_and c.from_residual.result c.from_residual.ensures.1 in
    rw p.1 (one_failed g.W.Write.contents group_text c.args.sink.now c.loop-group.sink c.put_group.new.sink
    c.args.groups.now c.loop-group.group-index c.group-item.result c.loop-group-test.true c.group-item.is
    c.loop-group.invariant c.in_err-put_group.ensures)

pub loop-group-preserved : goal.loop-group-preserved
loop-group-preserved g c =
    one_more g.W.Write.contents group_text c.args.sink.now c.loop-group.sink c.put_group.new.sink
    c.args.groups.now c.loop-group.group-index c.group-item.result c.loop-group-test.true c.group-item.is
    c.loop-group.invariant c.in_ok-put_group.ensures

pub returns : goal.returns
returns g c =
    all_sent g.W.Write.contents group_text c.args.sink.now c.loop-group.sink c.args.groups.now
    c.loop-group.group-index c.loop-group-test.false c.loop-group.invariant
