use Rattle.cave_plan.proofs.PartLemmas.{same_number}
use Rattle.cave_plan.proofs.laws.order_keeps_the_number.Goals as goal

pub returns : goal.returns
returns c = same_number
