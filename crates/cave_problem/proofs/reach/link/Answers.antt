use Rattle.std.proofs.Common.{◌≡◌, ◌+◌, ◌*◌, ℕ, slice_index, arith, subst, ◌∙◌}
use Rattle.std.proofs.lemmas.Grind.{get_or_default_zero}
use Rattle.cave_problem.specs.Reach.{IsNumberOf}
use Rattle.cave_problem.proofs.NumberedLemmas.{reach_few, linking_next}
use Rattle.cave_problem.proofs.reach.link.Goals as goal

pub bounds-near-number : goal.bounds-near-number
bounds-near-number c =
    let few = reach_few c.args.local.now c.args.reach.now.items c.requires.reach.found in
    omega (arith, few, c.requires.number, c.requires.sides.room, c.loop-face.auto.near)

pub loop-face-preserved : goal.loop-face-preserved
loop-face-preserved c =
    let few = reach_few c.args.local.now c.args.reach.now.items c.requires.reach.found in
    let cell : c.index-cell.result.now ≡ slice_index c.args.reach.now.items c.args.number = c.index-cell.ensures
    ∙ get_or_default_zero c.args.reach.now.items c.args.number c.index-cell.result.now c.requires.number in
    record {
      reach = c.in_ok-near.ensures.reach.found;
      linking = linking_next c.args.sides.now c.args.reach.now.items c.loop-face.reach.items
          c.number_of.new.reach.items c.loop-face.near c.args.number c.loop-face.face c.in_ok-near.field-0
          c.requires.number (omega (arith, few, c.requires.number, c.requires.sides.room, c.loop-face.auto.near))
          (omega arith) c.in_ok-near.ensures.reach.kept
          (subst (λ (n : ℕ). IsNumberOf c.number_of.new.reach.items
          (slice_index c.args.sides.now (6 * n + c.loop-face.face)) c.in_ok-near.field-0) cell
          c.in_ok-near.ensures.number) c.loop-face.invariant.linking;
    }
