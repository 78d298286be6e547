-- A list of numbers in order, and a tree with the cells of each leaf in order. These are this project's own.
use Rattle.std.specs.Prelude.{ℕ, List, [], ◌∷◌, nat_le, if◌then◌else◌}
use Rattle.proof_rules.specs.Tree.{Tree, Forest, leaf, weighted, branch, bar, omit, pick, none, more}

-- the number among ascending ones
abbrev pub placed : ℕ → List ℕ → List ℕ
placed x [] = x ∷ []
placed x (y ∷ ys) = if nat_le x y then x ∷ y ∷ ys else y ∷ placed x ys

-- the same numbers, ascending
abbrev pub in_order : List ℕ → List ℕ
in_order [] = []
in_order (x ∷ xs) = placed x (in_order xs)

abbrev mutual
  -- the same tree with ascending leaves; weighted leaves and omissions stay, whose form is one already
  pub ordered_tree : Tree → Tree
  ordered_tree (leaf cells) = leaf (in_order cells)
  ordered_tree (weighted groups) = weighted groups
  ordered_tree (branch cell kids) = branch cell (ordered_trees kids)
  ordered_tree (bar place by kid) = bar place by (ordered_tree kid)
  ordered_tree (omit cells kid) = omit cells (ordered_tree kid)
  ordered_tree (pick place with without) = pick place (ordered_tree with) (ordered_tree without)

  -- the same trees with ascending leaves
  pub ordered_trees : Forest → Forest
  ordered_trees none = none
  ordered_trees (more tree trees) = more (ordered_tree tree) (ordered_trees trees)
