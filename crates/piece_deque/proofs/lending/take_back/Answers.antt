use Rattle.std.proofs.Common.{rules}
use Rattle.piece_deque.proofs.LendLemmas.{merges}
use Rattle.piece_deque.proofs.lending.take_back.Goals as goal

pub absorb-requires-clause-rule : goal.absorb-requires-clause-rule
absorb-requires-clause-rule c = merges _ _ _ _ (search rules) (search rules) (search rules)
