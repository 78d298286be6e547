use Rattle.event_core.proofs.KeptLemmas.{steps_are_events}
use Rattle.event_core.proofs.laws.steps_are_events.Goals as goal

pub returns : goal.returns
returns c = steps_are_events
