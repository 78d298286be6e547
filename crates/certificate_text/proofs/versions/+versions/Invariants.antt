use Rattle.std.proofs.Common.{◌≡◌, ◌≤◌, max, drop}
use Rattle.certificate_text.specs.Planned.{versions_for}
use Rattle.proof_tree.specs.Shape.{tree_of, forest_of, tree_size, forest_size}
use Rattle.certificate_text.proofs.versions.+versions.Given as goal

abbrev pub decreases-least_version : goal.decreases-least_version
decreases-least_version l = tree_size (tree_of l.proof.now)

abbrev pub decreases-greatest_version : goal.decreases-greatest_version
decreases-greatest_version l = forest_size (forest_of l.trees.now)

-- with the version of the trees that are still to come, this is the version of all
abbrev pub invariant-greatest_version-loop-tree : goal.invariant-greatest_version-loop-tree
invariant-greatest_version-loop-tree l = (1 ≤ l.version)
    × (max l.version (versions_for (forest_of (drop l.tree-index l.trees))) ≡ versions_for (forest_of l.trees))
