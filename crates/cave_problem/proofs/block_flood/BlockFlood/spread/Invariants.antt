use Rattle.cave_problem.proofs.FloodLemmas.{Spreading}
use Rattle.cave_problem.proofs.block_flood.BlockFlood.spread.Given as goal

abbrev pub invariant-loop-level : goal.invariant-loop-level
invariant-loop-level l = Spreading l.world l.sources l.sides l.local l.reach.items l.near l.levels.items l.from l.level
