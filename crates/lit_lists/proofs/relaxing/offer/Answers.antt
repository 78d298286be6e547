use Rattle.std.proofs.Common.{◌≡◌, ◌-◌, slice_index, refl, ◌∙◌, arith}
use Rattle.cave_model.specs.Light.{entering_cost}
use Rattle.lit_lists.proofs.RelaxLemmas.{grows_none, grows_raised}
use Rattle.lit_lists.proofs.relaxing.offer.Goals as goal

pub returns-then-saturating_sub-here-clause-grows : goal.returns-then-saturating_sub-here-clause-grows
returns-then-saturating_sub-here-clause-grows c = grows_none c.args.world.now
    (slice_index c.args.levels.now c.args.from) (slice_index c.args.levels.now) c.args.queue.now.items

pub returns-in_ok-push-clause-grows : goal.returns-in_ok-push-clause-grows
returns-in_ok-push-clause-grows c =
    let brought : c.saturating_sub-brought.result ≡ slice_index c.args.levels.now c.args.from - entering_cost
    c.args.world.now c.args.to =
    c.saturating_sub-brought.ensures ∙ rw (c.max-cost.ensures, c.class_of.ensures.class) refl in
    rw c.in_ok-push.ensures.items
    (grows_raised c.args.world.now c.args.levels.now c.args.queue.now.items c.args.from c.args.to
    c.saturating_sub-brought.result c.requires.shared c.requires.inside (omega (arith, c.requires.cells)) brought
    (omega arith))

pub returns-else-brought-here-clause-grows : goal.returns-else-brought-here-clause-grows
returns-else-brought-here-clause-grows c = grows_none c.args.world.now (slice_index c.args.levels.now c.args.from)
    (slice_index c.args.levels.now) c.args.queue.now.items
