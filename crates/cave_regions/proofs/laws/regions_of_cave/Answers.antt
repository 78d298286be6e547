use Rattle.cave_regions.proofs.CaveLemmas.{regions_are, regions_agree}
use Rattle.cave_regions.proofs.laws.regions_of_cave.Goals as goal

pub returns-clause-regions : goal.returns-clause-regions
returns-clause-regions c = regions_are

pub returns-clause-agree : goal.returns-clause-agree
returns-clause-agree c = regions_agree
