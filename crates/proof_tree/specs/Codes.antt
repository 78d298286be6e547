-- A tree is told apart by its code.
use Rattle.std.specs.Prelude.{◌≡◌, ℕ, List, refl}
use Rattle.std.proofs.Common.{ap}
use base.Stored.{Gv, gnil, gnum, gcons, Coded, coded_ℕ, coded_list}
use Rattle.std.specs.Coded.{code_by, coded×}
use Rattle.proof_rules.specs.declared.groups.Share.{Share}
use Rattle.proof_rules.specs.declared.groups.Group.{Group}
use Rattle.proof_rules.specs.Tree.{Tree, Forest, leaf, weighted, branch, bar, omit, pick, none, more}

-- the code by which shares are told apart
abbrev pub share_coded : Coded Share
share_coded = code_by (ℕ × ℕ) (coded× coded_ℕ coded_ℕ) (λ s. (s.cell, s.weight))
    (λ p. record { cell = p.0; weight = p.1 })
    (λ _. refl)

-- the code by which groups are told apart
abbrev pub group_coded : Coded Group
group_coded = code_by (ℕ × List Share) (coded× coded_ℕ (coded_list share_coded)) (λ g. (g.capacity, g.shares))
    (λ p. record { capacity = p.0; shares = p.1 })
    (λ _. refl)

abbrev mutual
  -- a tree as the kind of its node and what it holds
  pub code_tree : Tree → Gv
  code_tree (leaf cells) = gcons (gnum 0) ((coded_list coded_ℕ).code cells)
  code_tree (weighted groups) = gcons (gnum 1) ((coded_list group_coded).code groups)
  code_tree (branch cell kids) = gcons (gnum 2) (gcons (gnum cell) (code_forest kids))
  code_tree (bar place by kid) = gcons (gnum 3) (gcons (gnum place) (gcons (gnum by) (code_tree kid)))
  code_tree (omit cells kid) = gcons (gnum 4) (gcons ((coded_list coded_ℕ).code cells) (code_tree kid))
  code_tree (pick place with without) =
      gcons (gnum 5) (gcons (gnum place) (gcons (code_tree with) (code_tree without)))

  -- the codes of the trees, one after another
  pub code_forest : Forest → Gv
  code_forest none = gnil
  code_forest (more k ks) = gcons (code_tree k) (code_forest ks)

mutual
  -- two trees with one code are one
  pub tree_inj : (x y : Tree) → code_tree x ≡ code_tree y → x ≡ y
  tree_inj (leaf a) (leaf b) p = ap leaf ((coded_list coded_ℕ).inj a b (cc))
  tree_inj (weighted a) (weighted b) p = ap weighted ((coded_list group_coded).inj a b (cc))
  tree_inj (branch c ks) (branch d ls) p =
      let cells : c ≡ d = cc in let kids : ks ≡ ls = forest_inj ks ls (cc) in cc
  tree_inj (bar q r k) (bar s t l) p =
      let places : q ≡ s = cc in let others : r ≡ t = cc in let kid : k ≡ l = tree_inj k l (cc) in cc
  tree_inj (omit a k) (omit b l) p =
      let cells : a ≡ b = (coded_list coded_ℕ).inj a b (cc) in let kid : k ≡ l = tree_inj k l (cc) in cc
  tree_inj (pick q k m) (pick s l n) p =
      let places : q ≡ s = cc in let first : k ≡ l = tree_inj k l (cc) in let second : m ≡ n = tree_inj m n (cc) in cc
  tree_inj x y p = absurd (cc)

  -- and so are two lists of trees
  pub forest_inj : (x y : Forest) → code_forest x ≡ code_forest y → x ≡ y
  forest_inj none none p = refl
  forest_inj none (more k ks) p = absurd (cc)
  forest_inj (more k ks) none p = absurd (cc)
  forest_inj (more k ks) (more l ls) p =
      let here : k ≡ l = tree_inj k l (cc) in let rest : ks ≡ ls = forest_inj ks ls (cc) in cc

-- the code by which trees are told apart
abbrev pub tree_coded : Coded Tree
tree_coded = record { code = code_tree; inj = tree_inj }

-- the code by which lists of trees are told apart
abbrev pub forest_coded : Coded Forest
forest_coded = record { code = code_forest; inj = forest_inj }
