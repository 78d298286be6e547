use Rattle.cave_regions.proofs.CoverLemmas.{covers_are_safe}
use Rattle.cave_regions.proofs.laws.covers_are_safe.Goals as goal

pub returns : goal.returns
returns c = covers_are_safe
