use Rattle.std.proofs.Common.{◌≡◌, arith}
use Rattle.cave_base.specs.Box as grid
use Rattle.cave_model.specs.Torches.{IsPlace}
use Rattle.cave_model.proofs.PlaceLemmas.{place_inside}
use Rattle.lit_lists.proofs.MarkLemmas.{marking_push, marking_all}
use Rattle.lit_lists.proofs.marking.place_marks.Goals as goal

pub loop-cell-preserved : goal.loop-cell-preserved
loop-cell-preserved c = rw c.in_ok-push.ensures.items
    (marking_push (IsPlace c.args.world.now) c.loop-cell.cell c.loop-cell.marks.items c.is_place.result
    c.loop-cell.invariant c.is_place.ensures)

pub returns : goal.returns
returns c =
    let all : c.loop-cell.cell ≡ grid.cell_count c.args.world.now.size =
    omega (arith, c.cell_count-cell-end.ensures.count) in
    marking_all (IsPlace c.args.world.now) c.loop-cell.cell (grid.cell_count c.args.world.now.size)
    c.loop-cell.marks.items all
    (λ cell place. place_inside c.args.world.now cell c.cell_count-cell-end.ensures.sound place) c.loop-cell.invariant
