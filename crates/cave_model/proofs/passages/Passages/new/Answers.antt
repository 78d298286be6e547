use Rattle.std.proofs.Common.{◌≡◌, length, rules, arith}
use Rattle.cave_model.proofs.PassageLemmas.{lists_row, lists_rows}
use Rattle.cave_model.proofs.passages.Passages.new.Goals as goal

pub overflow_cast-len : goal.overflow_cast-len
overflow_cast-len c =
    let on = c.in_ok-list_passages.ensures in
    let more = lists_row c.args.world.now c.loop-cell.cell c.loop-cell.starts.items c.loop-cell.cells.items
    c.list_passages.new.cells.items c.loop-cell.invariant on in
    let long : c.len.result ≡ length c.list_passages.new.cells.items = search rules in
    omega (arith, more.few, long)

pub loop-cell-preserved : goal.loop-cell-preserved
loop-cell-preserved c =
    let long : c.len.result ≡ length c.list_passages.new.cells.items = search rules in
    rw (c.in_ok-push-2.ensures.items, long) (lists_row c.args.world.now c.loop-cell.cell c.loop-cell.starts.items
    c.loop-cell.cells.items c.list_passages.new.cells.items c.loop-cell.invariant c.in_ok-list_passages.ensures)

pub returns : goal.returns
returns c =
    lists_rows c.args.world.now c.loop-cell.cell c.loop-cell.starts.items c.loop-cell.cells.items
    (omega (arith, c.cell_count-cell-end.ensures.count)) c.loop-cell.invariant
