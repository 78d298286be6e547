use Rattle.event_core.proofs.RunLemmas.{reached_kids}
use Rattle.event_core.proofs.laws.opened_has_kids.Goals as goal

pub returns : goal.returns
returns c = reached_kids
