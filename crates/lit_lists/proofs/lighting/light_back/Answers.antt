use Rattle.std.proofs.Common.{refl, ◌∙◌, arith}
use Rattle.lit_lists.proofs.BackLemmas.{way_back}
use Rattle.lit_lists.proofs.lighting.light_back.Goals as goal

pub returns-clause-back : goal.returns-clause-back
returns-clause-back c = way_back c.args.world.now c.args.cell c.saturating_sub.result c.requires.sound (omega arith)
    (omega arith)
    (c.saturating_sub.ensures ∙ rw (c.need.ensures.need, c.max-cost.ensures, c.class_of.ensures.class) refl)
