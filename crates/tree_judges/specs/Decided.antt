-- Trees of which the judge decides whether they close a node. Of the others it may refuse one that does: a place that
-- is left out deep below an omission is judged as if no cell were left out. This is this project's own.
use Rattle.std.specs.Prelude.{ℕ, List, Bool, IsTrue}
use Rattle.proof_rules.specs.Tree.{Tree, Forest, leaf, weighted, branch, bar, omit, pick, none, more}
use Rattle.set_cover.specs.Instance.{Instance}
use Rattle.pack_bound.specs.Nodes.{NodeState, Closes}
use Rattle.tree_judges.specs.Kids.{ClosesKids}
use Rattle.tree_judges.specs.Omission.{ClosesWithout}

abbrev mutual
  -- the tree has no bar
  pub HasNoBar : Tree → Type 0
  HasNoBar (leaf cells) = Unit {0}
  HasNoBar (weighted groups) = Unit {0}
  HasNoBar (branch cell kids) = HaveNoBar kids
  HasNoBar (bar place by kid) = ⊥
  HasNoBar (omit cells kid) = HasNoBar kid
  HasNoBar (pick place with without) = HasNoBar with × HasNoBar without

  -- none of the trees has one
  pub HaveNoBar : Forest → Type 0
  HaveNoBar none = Unit {0}
  HaveNoBar (more tree trees) = HasNoBar tree × HaveNoBar trees

-- the tree has bars at its top alone
abbrev pub HasBarsOnTop : Tree → Type 0
HasBarsOnTop (leaf cells) = Unit {0}
HasBarsOnTop (weighted groups) = Unit {0}
HasBarsOnTop (branch cell kids) = HaveNoBar kids
HasBarsOnTop (bar place by kid) = HasBarsOnTop kid
HasBarsOnTop (omit cells kid) = HasNoBar kid
HasBarsOnTop (pick place with without) = HasNoBar with × HasNoBar without

abbrev mutual
  -- below each omission that stands highest, bars stand right below it alone
  pub IsDecided : Tree → Type 0
  IsDecided (leaf cells) = Unit {0}
  IsDecided (weighted groups) = Unit {0}
  IsDecided (branch cell kids) = AreDecided kids
  IsDecided (bar place by kid) = IsDecided kid
  IsDecided (omit cells kid) = HasBarsOnTop kid
  IsDecided (pick place with without) = IsDecided with × IsDecided without

  -- below those of each of the trees
  pub AreDecided : Forest → Type 0
  AreDecided none = Unit {0}
  AreDecided (more tree trees) = IsDecided tree × AreDecided trees

-- a yes means that the tree closes what is left, and a no that it doesn't, if it is decided
pub record Decides (region : Instance) (state : NodeState) (floor : ℕ) (tree : Tree) (answer : Bool) : Type 0 where
  pub right : IsTrue answer → Closes region state floor tree
  pub all : IsDecided tree → Closes region state floor tree → IsTrue answer

-- a yes means that the tree closes what is left without the cells, and a no that it doesn't, if its bars are on top
pub record DecidesWithout (region : Instance) (state : NodeState) (omitted : List ℕ) (floor : ℕ) (tree : Tree)
    (answer : Bool) : Type 0 where
  pub right : IsTrue answer → ClosesWithout region state omitted floor tree
  pub all : HasBarsOnTop tree → ClosesWithout region state omitted floor tree → IsTrue answer

-- a yes means that the trees close the kids at these places, and a no that they don't, if they are decided
pub record DecidesKids (region : Instance) (state : NodeState) (floor : ℕ) (places : List ℕ) (trees : Forest)
    (answer : Bool) : Type 0 where
  pub right : IsTrue answer → ClosesKids region state floor places trees
  pub all : AreDecided trees → ClosesKids region state floor places trees → IsTrue answer
