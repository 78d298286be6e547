use Rattle.cave_problem.proofs.SideLemmas.{sides_more}
use Rattle.cave_problem.proofs.sides.list_all.Goals as goal

pub loop-cell-preserved : goal.loop-cell-preserved
loop-cell-preserved c = sides_more c.args.world.now c.loop-cell.cell c.loop-cell.sides c.list_sides.new.sides
    c.loop-cell.invariant c.list_sides.ensures
