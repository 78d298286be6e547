use Rattle.std.proofs.Common.{◌∙◌}
use Rattle.lit_lists.proofs.SeedLemmas.{seeded, settled_levels}
use Rattle.lit_lists.proofs.levels.fill.Goals as goal

pub relax-requires-clause-seeded : goal.relax-requires-clause-seeded
relax-requires-clause-seeded c = seeded c.args.world.now c.seed.new.levels c.seed.new.queue.items c.in_ok-seed.ensures

pub returns : goal.returns
returns c = settled_levels c.args.world.now c.seed.new.levels c.relax.new.levels c.seed.new.queue.items
    c.relax.new.queue.items c.in_ok-seed.ensures c.in_ok-relax.ensures.settled (c.relax.auto.levels ∙ c.seed.auto.levels
    ∙ c.requires.cells)
