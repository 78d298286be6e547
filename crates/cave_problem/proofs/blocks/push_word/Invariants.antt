use Rattle.std.proofs.Common.{◌-◌}
use Rattle.cave_problem.proofs.StoreLemmas.{Pushing}
use Rattle.cave_problem.proofs.blocks.push_word.Given as goal

abbrev pub invariant-loop-bit : goal.invariant-loop-bit
invariant-loop-bit l = Pushing l.place l.block l.word l.from l.initial.lit l.lit

abbrev pub decreases-loop-bit : goal.decreases-loop-bit
decreases-loop-bit l = 64 - l.from
