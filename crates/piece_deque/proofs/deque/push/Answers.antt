use Rattle.piece_deque.proofs.StepLemmas.{pushes}
use Rattle.piece_deque.proofs.deque.push.Goals as goal

pub push_as-requires-clause-pushes : goal.push_as-requires-clause-pushes
push_as-requires-clause-pushes c = pushes _ _ _ c.requires
