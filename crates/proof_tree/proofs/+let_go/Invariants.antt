use Rattle.std.specs.Prelude.{◌≤◌}
use Rattle.proof_tree.specs.Shape.{tree_size}
use Rattle.proof_tree.proofs.+let_go.Given as goal

-- what is left is no larger than the tree
abbrev pub invariant-proof::Below::drop-loop-kid : goal.invariant-proof::Below::drop-loop-kid
invariant-proof::Below::drop-loop-kid l = tree_size l.self ≤ tree_size l.fn.self
