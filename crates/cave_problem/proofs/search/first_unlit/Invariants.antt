use Rattle.std.proofs.Common.{ℕ, ◌<◌}
use Rattle.set_cover.specs.Bits.{Has}
use Rattle.cave_problem.proofs.search.first_unlit.Given as goal

abbrev pub invariant-loop-index : goal.invariant-loop-index
invariant-loop-index l = (k : ℕ) → k < l.index → Has l.covered k
