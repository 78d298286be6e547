use Rattle.std.proofs.Common.{◌≡◌, [], ◌∷◌, length}
use Rattle.search_pool.specs.Deques.{AreStocked}
use Rattle.search_pool.proofs.deques.stocked.Given as goal

-- `number` deques are stocked, the first one with the piece
abbrev pub invariant-loop-number : goal.invariant-loop-number
invariant-loop-number l = record {
  stocked : AreStocked (l.fn.piece ∷ []) l.owners.items;
  each : length l.owners.items ≡ l.number;
}
