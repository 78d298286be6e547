-- The text of a tree, and what can be said of its leaves. This is this project's own.
use Rattle.std.specs.Prelude.{ℕ, List, [], ◌∷◌, ◌++◌, flat_map}
use Rattle.cave_model.specs.Plan.{AreDistinct}
use Rattle.proof_rules.specs.declared.groups.Group.{Group}
use Rattle.proof_rules.specs.Tree.{Tree, Forest, leaf, weighted, branch, bar, omit, pick, none, more}
use Rattle.proof_rules.specs.Text.{ended, group_line, tree_lines, forest_lines}
use Rattle.proof_tree.specs.Order.{ordered_tree, ordered_trees}

-- a line for each node, with the cells of its leaves in order
abbrev pub tree_text : Tree → List ℕ
tree_text tree = ended (tree_lines (ordered_tree tree))

-- the lines of each of the trees, one tree after another
abbrev pub forest_text : Forest → List ℕ
forest_text trees = ended (forest_lines (ordered_trees trees))

-- the line of a group, ended
abbrev pub group_text : Group → List ℕ
group_text group = group_line group ++ 10 ∷ []

-- the lines of the groups, one group after another
abbrev pub groups_text : List Group → List ℕ
groups_text groups = flat_map group_text groups

abbrev mutual
  -- no cell stands twice in a leaf
  pub HasDistinctCells : Tree → Type 0
  HasDistinctCells (leaf cells) = AreDistinct cells
  HasDistinctCells (weighted groups) = Unit {0}
  HasDistinctCells (branch cell kids) = HaveDistinctCells kids
  HasDistinctCells (bar place by kid) = HasDistinctCells kid
  HasDistinctCells (omit cells kid) = HasDistinctCells kid
  HasDistinctCells (pick place with without) = HasDistinctCells with × HasDistinctCells without

  -- no cell stands twice in one leaf of the trees
  pub HaveDistinctCells : Forest → Type 0
  HaveDistinctCells none = Unit {0}
  HaveDistinctCells (more tree trees) = HasDistinctCells tree × HaveDistinctCells trees
