use Rattle.std.proofs.Common.{◌≡◌, ◌+◌, ◌≤◌, ◌++◌, length, vec_len, vec_capacity}
use Rattle.worker_results.proofs.working.push_all.Given as goal

abbrev pub invariant-loop-piece : goal.invariant-loop-piece
invariant-loop-piece l = record {
  room : vec_len l.kept + length l.piece-iterator.rest.items ≤ vec_capacity l.kept;
  all : l.kept.items ++ l.piece-iterator.rest.items ≡ l.initial.kept.items ++ l.initial.piece-iterator.rest.items;
}
