use Rattle.cave_model.specs.Torches.{IsPlace}
use Rattle.lit_lists.proofs.MarkLemmas.{Marking}
use Rattle.lit_lists.proofs.marking.place_marks.Given as goal

abbrev pub invariant-loop-cell : goal.invariant-loop-cell
invariant-loop-cell l = Marking (IsPlace l.world) l.cell l.marks.items
