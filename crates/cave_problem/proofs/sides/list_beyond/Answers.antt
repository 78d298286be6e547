use Rattle.std.proofs.Common.{List, Option, None, ℕ, get_or, ap, sym, subst, arith}
use Rattle.cave_problem.specs.Reach.{IsSide}
use Rattle.cave_problem.proofs.SideLemmas.{beyond_inside, sides_next}
use Rattle.cave_problem.proofs.sides.list_beyond.Goals as goal

pub side_of-requires : goal.side_of-requires
side_of-requires c = record {
  inside = beyond_inside c.args.world.now.size c.args.cell c.loop-face.face
      (get_or c.neighbours.result c.loop-face.face None) c.requires.in_box
      (ap (λ (l : List (Option ℕ)). get_or l c.loop-face.face None) (sym c.neighbours.ensures));
}

pub loop-face-preserved : goal.loop-face-preserved
loop-face-preserved c = sides_next c.args.world.now c.args.cell c.loop-face.face c.side_of.result
    c.args.sides.now c.loop-face.sides (omega (arith, c.requires.whole, c.requires.in_box, c.loop-face.auto.sides))
    (subst (λ (l : List (Option ℕ)). IsSide c.args.world.now c.args.cell (get_or l c.loop-face.face None)
    c.side_of.result) c.neighbours.ensures c.side_of.ensures) c.loop-face.invariant
