use Rattle.std.proofs.Common.{◌≡◌, refl, arith}
use Rattle.cave_model.specs.Cave.{class_at}
use Rattle.cave_base.specs.Box as grid
use Rattle.lit_lists.proofs.SeedLemmas.{seeding_lit, seeding_unlit, seeding_all}
use Rattle.lit_lists.proofs.levels.seed.Goals.{then-emission-gt0+in_ok-push, else-emission-gt0}
use Rattle.lit_lists.proofs.levels.seed.Goals as goal

pub loop-cell-preserved : goal.loop-cell-preserved
loop-cell-preserved c =
    let is : c.class_of-emission.result.emission ≡ (class_at c.args.world.now c.loop-cell.cell).emission =
    rw c.class_of-emission.ensures.class refl in
    elim c.if-emission-gt0.branch [
      | then-emission-gt0+in_ok-push w ↦ rw (w.queue-is, w.in_ok-push.ensures.items)
          (seeding_lit c.args.world.now c.loop-cell.cell c.loop-cell.levels c.loop-cell.queue.items
          c.loop-cell.invariant (omega (arith, c.cell_count-cell-end.ensures.count))
          c.class_of-emission.result.emission is)
      | else-emission-gt0 w ↦ rw w.queue-is
          (seeding_unlit c.args.world.now c.loop-cell.cell c.loop-cell.levels c.loop-cell.queue.items
          c.loop-cell.invariant (omega (arith, c.cell_count-cell-end.ensures.count))
          c.class_of-emission.result.emission is (omega (arith, w.if-emission-gt0.false)))
    ]

pub returns : goal.returns
returns c =
    let all : c.loop-cell.cell ≡ grid.cell_count c.args.world.now.size =
    omega (arith, c.cell_count-cell-end.ensures.count) in
    seeding_all c.args.world.now c.loop-cell.cell c.loop-cell.levels c.loop-cell.queue.items
    c.cell_count-cell-end.ensures.sound all c.loop-cell.invariant
