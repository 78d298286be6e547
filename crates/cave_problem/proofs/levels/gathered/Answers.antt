use Rattle.cave_problem.proofs.WordLemmas.{union_none, union_next}
use Rattle.cave_problem.proofs.levels.gathered.Goals as goal

pub loop-face-init : goal.loop-face-init
loop-face-init c = union_none c.args.near.now c.args.levels.now c.args.number c.args.level

pub loop-face-preserved : goal.loop-face-preserved
loop-face-preserved c = union_next c.args.near.now c.args.levels.now c.args.number c.args.level c.loop-face.face
    c.loop-face.word c.loop-face.invariant
