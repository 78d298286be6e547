use Rattle.event_core.proofs.RunLemmas.{reached_goal}
use Rattle.event_core.proofs.laws.done_reaches_the_goal.Goals as goal

pub returns : goal.returns
returns c = reached_goal
