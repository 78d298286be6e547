use Rattle.std.specs.Prelude.{◌≡◌, length}
use Rattle.event_core.proofs.opening.boxes_for.Given as goal

-- one for each bar before the index
abbrev pub invariant-loop-bar : goal.invariant-loop-bar
invariant-loop-bar l = length l.boxes.items ≡ l.bar-index
