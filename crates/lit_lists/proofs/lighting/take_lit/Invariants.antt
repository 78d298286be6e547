use Rattle.std.proofs.Common.{take}
use Rattle.lit_lists.proofs.TakeLemmas.{Taking}
use Rattle.lit_lists.proofs.lighting.take_lit.Given as goal

abbrev pub invariant-loop-cell : goal.invariant-loop-cell
invariant-loop-cell l = Taking l.fn.levels (take l.cell-index l.queue) l.levels l.lit.items
