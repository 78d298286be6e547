use Rattle.std.specs.Prelude.{◌≡◌, ◌++◌, take}
use Rattle.proof_tree.specs.Bars.{places_of}
use Rattle.proof_tree.proofs.kids.joined_with.Given as goal

-- the places, and those of the bars before the index
abbrev pub invariant-loop-bar : goal.invariant-loop-bar
invariant-loop-bar l = l.all.items ≡ l.places ++ places_of (take l.bar-index l.bars)
