use Rattle.std.proofs.Common.{◌≤◌}
use Rattle.proof_tree.specs.Shape.{tree_of, forest_of, tree_size, forest_size}
use Rattle.tree_shaping.proofs.kernel_cells.KernelCells.+speaking.Given as goal

abbrev pub decreases-spoken_by : goal.decreases-spoken_by
decreases-spoken_by l = tree_size (tree_of l.tree)

abbrev pub decreases-spoken_by_all : goal.decreases-spoken_by_all
decreases-spoken_by_all l = forest_size (forest_of l.trees.items)

abbrev pub invariant-spoken_by_all-loop-tree : goal.invariant-spoken_by_all-loop-tree
invariant-spoken_by_all-loop-tree l =
    forest_size (forest_of l.tree-iterator.rest.items) ≤ forest_size (forest_of l.fn.trees.items)
