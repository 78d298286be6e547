use Rattle.cave_model.specs.Spawn.{IsDark}
use Rattle.lit_lists.proofs.MarkLemmas.{Marking}
use Rattle.lit_lists.proofs.marking.dark_marks.Given as goal

abbrev pub invariant-loop-cell : goal.invariant-loop-cell
invariant-loop-cell l = Marking (IsDark l.world) l.cell l.marks.items
