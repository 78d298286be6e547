use Rattle.event_core.proofs.RunLemmas.{reached_exact}
use Rattle.event_core.proofs.laws.smaller_covers_stay.Goals as goal

pub returns : goal.returns
returns c = reached_exact
