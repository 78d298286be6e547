use Rattle.cave_model.specs.Torches.{IsPlace}
use Rattle.cave_model.proofs.ListingLemmas.{ListsBelow}
use Rattle.cave_problem.proofs.places.legal_places.Given as goal

abbrev pub invariant-loop-cell : goal.invariant-loop-cell
invariant-loop-cell l = ListsBelow (IsPlace l.world) l.cell l.places.items
