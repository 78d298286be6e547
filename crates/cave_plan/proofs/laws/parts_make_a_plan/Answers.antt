use Rattle.cave_plan.proofs.PartLemmas.{plan_within}
use Rattle.cave_plan.proofs.laws.parts_make_a_plan.Goals as goal

pub returns : goal.returns
returns c = plan_within
