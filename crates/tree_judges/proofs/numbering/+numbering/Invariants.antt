use Rattle.std.proofs.Common.{◌≡◌, ◌≤◌, ◌+◌}
use Rattle.proof_tree.specs.Shape.{tree_of, forest_of, tree_size, forest_size}
use Rattle.pack_bound.specs.Naming.{numbered}
use Rattle.proof_tree.specs.Bars.{wrapped}
use Rattle.tree_judges.proofs.NumberingLemmas.{NumberedSoFar}
use Rattle.tree_judges.proofs.numbering.+numbering.Given as goal

abbrev pub decreases-with_numbers : goal.decreases-with_numbers
decreases-with_numbers l = tree_size (tree_of l.tree)

abbrev pub decreases-pick_with_numbers : goal.decreases-pick_with_numbers
decreases-pick_with_numbers l = tree_size l.with + tree_size l.without + 1

abbrev pub decreases-all_with_numbers : goal.decreases-all_with_numbers
decreases-all_with_numbers l = forest_size (forest_of l.trees.items)

abbrev pub invariant-all_with_numbers-loop-tree : goal.invariant-all_with_numbers-loop-tree
invariant-all_with_numbers-loop-tree l = NumberedSoFar l.region l.fn.trees.items l.tree-iterator.rest.items
    l.proofs.items

abbrev pub invariant-with_numbers-loop-rest : goal.invariant-with_numbers-loop-rest
invariant-with_numbers-loop-rest l =
    (wrapped l.bars.items (numbered l.region (tree_of l.rest)) ≡ numbered l.region (tree_of l.fn.tree))
    × (tree_size (tree_of l.rest) ≤ tree_size (tree_of l.fn.tree))
