use Rattle.std.proofs.Common.{◌≡◌, vec_len}
use Rattle.proof_tree.specs.Shape.{tree_of}
use Rattle.proof_tree.specs.Bars.{wrapped}
use Rattle.proof_tree.proofs.bars.wrap.Given as goal

abbrev pub invariant-loop-bar : goal.invariant-loop-bar
invariant-loop-bar l = wrapped l.bars.items (tree_of l.whole) ≡ wrapped l.fn.bars.items (tree_of l.fn.proof)

abbrev pub decreases-loop-bar : goal.decreases-loop-bar
decreases-loop-bar l = vec_len l.bars
