use Rattle.cave_model.specs.Spawn.{IsDark}
use Rattle.cave_model.proofs.ListingLemmas.{ListsBelow}
use Rattle.light_flood.proofs.darkness.dark_cells.Given as goal

abbrev pub invariant-loop-cell : goal.invariant-loop-cell
invariant-loop-cell l = ListsBelow (IsDark l.world) l.cell l.cells.items
