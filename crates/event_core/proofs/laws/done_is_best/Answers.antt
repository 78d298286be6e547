use Rattle.event_core.proofs.RunLemmas.{reached_best}
use Rattle.event_core.proofs.laws.done_is_best.Goals as goal

pub returns : goal.returns
returns c = reached_best
