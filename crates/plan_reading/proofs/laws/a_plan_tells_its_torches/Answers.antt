use Rattle.plan_reading.proofs.PrintedLemmas.{printed_told}
use Rattle.plan_reading.proofs.laws.a_plan_tells_its_torches.Goals as goal

pub returns : goal.returns
returns c = printed_told
