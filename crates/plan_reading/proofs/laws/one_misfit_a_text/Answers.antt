use Rattle.plan_reading.proofs.ReadLemmas.{one_misfit}
use Rattle.plan_reading.proofs.laws.one_misfit_a_text.Goals as goal

pub returns : goal.returns
returns c = one_misfit
