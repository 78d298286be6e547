use Rattle.cave_model.proofs.ListingLemmas.{ListsBelow}
use Rattle.instance_regions.specs.Restricting.{IsLighting}
use Rattle.instance_regions.proofs.entire.lighting.Given as goal

abbrev pub invariant-loop-place : goal.invariant-loop-place
invariant-loop-place l = ListsBelow (IsLighting l.sparse) l.place l.placed.items
