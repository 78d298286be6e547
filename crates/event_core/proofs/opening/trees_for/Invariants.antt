use Rattle.std.specs.Prelude.{◌≡◌, length}
use Rattle.event_core.proofs.opening.trees_for.Given as goal

abbrev pub invariant-loop-index : goal.invariant-loop-index
invariant-loop-index l = length l.trees.items ≡ l.index
