use Rattle.std.proofs.Common.{rules}
use Rattle.piece_deque.proofs.StepLemmas.{takes}
use Rattle.piece_deque.proofs.deque.steal.Goals as goal

pub steal_as-requires-clause-takes : goal.steal_as-requires-clause-takes
steal_as-requires-clause-takes c = takes _ _ (search rules)
