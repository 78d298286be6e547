use Rattle.light_flood.proofs.FloodLemmas.{Seeded}
use Rattle.light_flood.proofs.flood.seed_all.Given as goal

abbrev pub invariant-loop-cell : goal.invariant-loop-cell
invariant-loop-cell l = Seeded l.world l.cell l.flood.store l.flood.waiting
