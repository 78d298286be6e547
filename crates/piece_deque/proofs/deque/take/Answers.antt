use Rattle.std.proofs.Common.{rules}
use Rattle.piece_deque.proofs.StepLemmas.{takes}
use Rattle.piece_deque.proofs.deque.take.Goals as goal

pub pop_as-requires-clause-fifo : goal.pop_as-requires-clause-fifo
pop_as-requires-clause-fifo c = λ _. takes _ _ (search rules)
