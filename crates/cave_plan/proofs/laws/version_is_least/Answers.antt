use Rattle.cave_plan.proofs.VersionLemmas.{in_least_version}
use Rattle.cave_plan.proofs.laws.version_is_least.Goals as goal

pub returns : goal.returns
returns c = in_least_version
