use Rattle.lit_lists.specs.Seeded.{IsScratch}
use Rattle.lit_lists.proofs.LightsLemmas.{ArePlaced}
use Rattle.lit_lists.proofs.pairs.find_places.Given as goal

abbrev pub invariant-loop-cell : goal.invariant-loop-cell
invariant-loop-cell l = record {
  scratch : IsScratch l.world l.levels;
  placed : ArePlaced l.world l.cell l.starts.items l.found.items;
}
