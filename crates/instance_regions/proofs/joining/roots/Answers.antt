use Rattle.std.proofs.Common.{arith}
use Rattle.instance_regions.proofs.TreeLemmas.{roots_none, roots_next, roots_all}
use Rattle.instance_regions.proofs.joining.roots.Goals as goal

pub loop-cell-init : goal.loop-cell-init
loop-cell-init c = roots_none c.args.parents.now _ c.requires.forest c.in_ok-labels.ensures.items

pub loop-cell-preserved : goal.loop-cell-preserved
loop-cell-preserved c = rw c.in_ok-push.ensures.items
    (roots_next c.args.parents.now c.loop-cell.parents c.find.new.parents c.loop-cell.labels.items c.loop-cell.cell
    c.find.result (omega arith) c.find.ensures c.loop-cell.invariant)

pub returns : goal.returns
returns c = roots_all c.args.parents.now c.loop-cell.parents c.loop-cell.labels.items c.loop-cell.cell (omega arith)
    c.loop-cell.invariant
