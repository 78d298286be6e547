use Rattle.std.proofs.Common.{◌≡◌, arith}
use Rattle.cave_base.specs.Box as grid
use Rattle.cave_model.specs.Spawn.{IsDark}
use Rattle.cave_model.proofs.TorchLemmas.{spawnable_inside}
use Rattle.lit_lists.proofs.MarkLemmas.{marking_push, marking_all}
use Rattle.lit_lists.proofs.marking.dark_marks.Goals as goal

pub loop-cell-preserved : goal.loop-cell-preserved
loop-cell-preserved c = rw c.in_ok-push.ensures.items
    (marking_push (IsDark c.args.world.now) c.loop-cell.cell c.loop-cell.marks.items c.is_dark.result
    c.loop-cell.invariant c.is_dark.ensures)

pub returns : goal.returns
returns c =
    let all : c.loop-cell.cell ≡ grid.cell_count c.args.world.now.size =
    omega (arith, c.cell_count-cell-end.ensures.count) in
    marking_all (IsDark c.args.world.now) c.loop-cell.cell (grid.cell_count c.args.world.now.size)
    c.loop-cell.marks.items all
    (λ cell dark. spawnable_inside c.args.world.now cell c.cell_count-cell-end.ensures.sound dark.spawnable)
    c.loop-cell.invariant
