use Rattle.schedule_law.proofs.LawLemmas.{counts}
use Rattle.schedule_law.proofs.laws.counts_add_up.Goals as goal

pub returns : goal.returns
returns c = counts
