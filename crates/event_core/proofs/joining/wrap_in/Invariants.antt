use Rattle.std.proofs.Common.{◌≡◌, length, vec_len}
use Rattle.proof_tree.specs.Shape.{tree_of}
use Rattle.proof_tree.specs.Bars.{wrapped}
use Rattle.event_core.proofs.joining.wrap_in.Given as goal

-- what is wrapped so far, and as many boxes as bars
abbrev pub invariant-loop-bar : goal.invariant-loop-bar
invariant-loop-bar l = record {
  made : wrapped l.bars.items (tree_of l.whole) ≡ wrapped l.fn.bars.items (tree_of l.fn.tree);
  enough : length l.boxes.items ≡ length l.bars.items;
}

abbrev pub decreases-loop-bar : goal.decreases-loop-bar
decreases-loop-bar l = vec_len l.bars
