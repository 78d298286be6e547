use Rattle.cave_model.proofs.LightLemmas.{brings_back}
use Rattle.cave_model.proofs.laws.light_goes_back.Goals as goal

pub returns : goal.returns
returns c = brings_back
