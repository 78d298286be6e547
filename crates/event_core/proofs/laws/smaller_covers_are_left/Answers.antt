use Rattle.event_core.proofs.RunLemmas.{reached_left}
use Rattle.event_core.proofs.laws.smaller_covers_are_left.Goals as goal

pub returns : goal.returns
returns c = reached_left
