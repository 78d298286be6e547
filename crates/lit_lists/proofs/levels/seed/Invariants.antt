use Rattle.lit_lists.proofs.SeedLemmas.{Seeding}
use Rattle.lit_lists.proofs.levels.seed.Given as goal

abbrev pub invariant-loop-cell : goal.invariant-loop-cell
invariant-loop-cell l = Seeding l.world l.cell l.levels l.queue.items
