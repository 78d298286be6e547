use Rattle.cave_plan.proofs.TextLemmas.{one_certificate}
use Rattle.cave_plan.proofs.laws.one_certificate_a_text.Goals as goal

pub returns : goal.returns
returns c = one_certificate
