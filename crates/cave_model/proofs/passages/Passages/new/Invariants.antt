use Rattle.cave_model.proofs.PassageLemmas.{ListsPassages}
use Rattle.cave_model.proofs.passages.Passages.new.Given as goal

abbrev pub invariant-loop-cell : goal.invariant-loop-cell
invariant-loop-cell l = ListsPassages l.world l.cell l.starts.items l.cells.items
