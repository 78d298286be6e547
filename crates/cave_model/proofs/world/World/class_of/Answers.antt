use Rattle.std.proofs.Common.{◌<◌, ℕ, sym, subst, ◌∙◌}
use Rattle.std.proofs.lemmas.List.{get_or_default}
use Rattle.cave_base.specs.Class.{IsSoundClass, void}
use Rattle.cave_base.specs.Box.{cell_count}
use Rattle.cave_model.specs.Cave.{Cave}
use Rattle.cave_model.proofs.world.World.class_of.Goals as goal

pub returns-clause-sound : goal.returns-clause-sound
returns-clause-sound c =
    let in_box = subst (λ (cave : Cave). c.args.cell < cell_count cave.size) (sym c.self.view_is) c.requires.in_box in
    let there = subst (λ (n : ℕ). c.args.cell < n) (sym c.self.invariant.sound.whole) in_box in
    let same = c.index.ensures ∙ get_or_default c.self.inside.classes.items c.args.cell c.index.result.now void there in
    subst IsSoundClass (sym same) (c.self.invariant.sound.classed c.args.cell)
