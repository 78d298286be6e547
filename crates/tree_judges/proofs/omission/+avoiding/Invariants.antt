use Rattle.std.proofs.Common.{take}
use Rattle.proof_tree.specs.Shape.{tree_of, forest_of, tree_size, forest_size}
use Rattle.tree_judges.specs.Omission.{AllAvoid}
use Rattle.tree_judges.proofs.omission.+avoiding.Given as goal

abbrev pub decreases-avoids : goal.decreases-avoids
decreases-avoids l = tree_size (tree_of l.tree.now)

abbrev pub decreases-all_avoid : goal.decreases-all_avoid
decreases-all_avoid l = forest_size (forest_of l.trees.now)

abbrev pub invariant-all_avoid-loop-index : goal.invariant-all_avoid-loop-index
invariant-all_avoid-loop-index l = AllAvoid l.omitted (forest_of (take l.index l.trees))
