use Rattle.cave_model.proofs.PassageLemmas.{GoesOnBy}
use Rattle.cave_model.proofs.passages.list_passages.Given as goal

abbrev pub invariant-loop-to : goal.invariant-loop-to
invariant-loop-to l = GoesOnBy l.world l.to-items l.to-index l.fn.cells.items l.cells.items
