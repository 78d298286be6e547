use Rattle.std.proofs.Common.{rules}
use Rattle.piece_deque.proofs.LendLemmas.{forks}
use Rattle.piece_deque.proofs.lending.lend_pass.Goals as goal

pub another-requires : goal.another-requires
another-requires c = forks _ _ (search rules) (search rules)
