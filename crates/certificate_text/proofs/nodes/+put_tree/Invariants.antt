use Rattle.proof_tree.specs.Shape.{tree_of, forest_of, tree_size, forest_size}
use Rattle.certificate_text.proofs.NodeLemmas.{SentUpTo}
use Rattle.certificate_text.proofs.nodes.+put_tree.Given as goal

abbrev pub decreases-put_tree : goal.decreases-put_tree
decreases-put_tree g l = tree_size (tree_of l.proof.now)

abbrev pub decreases-put_trees : goal.decreases-put_trees
decreases-put_trees g l = forest_size (forest_of l.trees.now)

abbrev pub invariant-put_trees-loop-tree : goal.invariant-put_trees-loop-tree
invariant-put_trees-loop-tree g l = SentUpTo g.W.Write.contents l.initial.sink l.sink l.trees l.tree-index
