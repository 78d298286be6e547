use Rattle.plan_reading.proofs.LineLemmas.{one_plan}
use Rattle.plan_reading.proofs.laws.one_plan_a_text.Goals as goal

pub returns : goal.returns
returns c = one_plan
