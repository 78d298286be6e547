use Rattle.cave_plan.proofs.OutlineLemmas.{none_safe}
use Rattle.cave_plan.proofs.laws.unlightable_has_no_plan.Goals as goal

pub returns : goal.returns
returns c = none_safe
