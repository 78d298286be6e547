use Rattle.event_core.proofs.GoodLemmas.{reached_good}
use Rattle.event_core.proofs.laws.assembled_is_good.Goals as goal

pub returns : goal.returns
returns c = reached_good
