use Rattle.cave_plan.proofs.AcceptedLemmas.{fewest}
use Rattle.cave_plan.proofs.laws.best_plans_are_fewest.Goals as goal

pub returns : goal.returns
returns c = λ cave plans cells world best order. fewest cave plans world best cells order
