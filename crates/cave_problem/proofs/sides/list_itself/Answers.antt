use Rattle.std.proofs.Common.{None, get_or, arith}
use Rattle.cave_model.specs.Cells.{neighbours_of}
use Rattle.cave_problem.proofs.SideLemmas.{is_itself, sides_next}
use Rattle.cave_problem.proofs.sides.list_itself.Goals as goal

pub loop-face-preserved : goal.loop-face-preserved
loop-face-preserved c = sides_next c.args._world.now c.args.cell c.loop-face.face c.args.cell c.args.sides.now
    c.loop-face.sides (omega (arith, c.requires.whole, c.requires.in_box, c.loop-face.auto.sides))
    (is_itself c.args._world.now c.args.cell
    (get_or (neighbours_of c.args._world.now.size c.args.cell) c.loop-face.face None) c.requires.opaque)
    c.loop-face.invariant
