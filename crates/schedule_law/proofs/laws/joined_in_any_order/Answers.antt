use Rattle.schedule_law.proofs.OrderLemmas.{joined_in_any_order}
use Rattle.schedule_law.proofs.laws.joined_in_any_order.Goals as goal

pub returns : goal.returns
returns c = joined_in_any_order
