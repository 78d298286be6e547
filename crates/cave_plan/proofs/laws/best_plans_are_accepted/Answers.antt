use Rattle.cave_plan.proofs.AcceptedLemmas.{accepted}
use Rattle.cave_plan.proofs.laws.best_plans_are_accepted.Goals as goal

pub returns : goal.returns
returns c = λ cave plans world best. accepted cave plans world best
