-- Trees of a list, and their sizes.
use Rattle.std.proofs.Common.{ℕ, zero, suc, ◌<◌, List, [], ◌∷◌, length, get_or, arith}
use Rattle.proof_tree.specs.declared.proof.Proof.{Proof}
use Rattle.proof_tree.specs.Shape.{tree_of, forest_of, tree_size, forest_size}

-- a tree of a list is smaller than the list
pub tree_below : (trees : List Proof) (index : ℕ) (default : Proof) → index < length trees
    → tree_size (tree_of (get_or trees index default)) < forest_size (forest_of trees)
tree_below [] index default inside = absurd (omega (arith, inside))
tree_below (tree ∷ trees) zero default inside = omega arith
tree_below (tree ∷ trees) (suc index) default inside =
    let rest = tree_below trees index default (omega (arith, inside)) in omega (arith, rest)
