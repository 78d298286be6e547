use Rattle.std.proofs.Common.{take, ◌+◌}
use Rattle.proof_tree.specs.Shape.{tree_of, forest_of, tree_size, forest_size}
use Rattle.tree_judges.specs.Kids.{KidsSoFar}
use Rattle.tree_judges.proofs.tree_judge.+judging.Given as goal

abbrev pub decreases-is_good : goal.decreases-is_good
decreases-is_good l = tree_size (tree_of l.tree.now)

abbrev pub decreases-is_good_without : goal.decreases-is_good_without
decreases-is_good_without l = tree_size (tree_of l.tree.now) + 1

abbrev pub decreases-is_good_pick : goal.decreases-is_good_pick
decreases-is_good_pick l = tree_size (tree_of l.with.now) + tree_size (tree_of l.without.now) + 1

abbrev pub decreases-are_good : goal.decreases-are_good
decreases-are_good l = forest_size (forest_of l.trees.now)

abbrev pub invariant-are_good-loop-index : goal.invariant-are_good-loop-index
invariant-are_good-loop-index l = KidsSoFar l.region l.node l.floor (take l.index l.places) l.barred
    (forest_of (take l.index l.trees))
