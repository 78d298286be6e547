use Rattle.cave_model.proofs.LightLemmas.{relaxed_level}
use Rattle.cave_model.proofs.laws.relaxation_is_light.Goals as goal

pub returns : goal.returns
returns c = relaxed_level
