use Rattle.std.specs.Prelude.{◌≡◌, ◌++◌, take}
use Rattle.proof_tree.specs.Bars.{places_of}
use Rattle.event_core.proofs.steps.with_bars.Given as goal

-- the places, and those of the bars before the index
abbrev pub invariant-loop-bar : goal.invariant-loop-bar
invariant-loop-bar l = l.more.items ≡ l.fn.places.items ++ places_of (take l.bar-index l.bars)
