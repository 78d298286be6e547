use Rattle.light_flood.proofs.FloodLemmas.{settled_levels}
use Rattle.light_flood.proofs.flood.light.Goals as goal

pub returns : goal.returns
returns c = settled_levels c.args.world.now c.seed_all.new.flood.store c.spread.new.self.store
    c.in_ok-seed_all.ensures.emissions c.in_ok-spread.ensures.settled c.in_ok-spread.ensures.cells
