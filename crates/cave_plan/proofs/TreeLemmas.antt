-- Lines that begin with those of a tree begin with those of no other tree.
use Rattle.std.proofs.Common.{◌≡◌, ℕ, ◌≤◌, List, [], ◌∷◌, ◌++◌, length, map, get_or, All, refl, sym, ap, ◌∙◌}
use Rattle.std.proofs.Common.{append_assoc, arith}
use Rattle.std.specs.Prelude.{codes}
use Rattle.std.proofs.lemmas.List.Elements.{All-nil, All-cons}
use Rattle.cave_base.specs.Box.{most_cells}
use Rattle.proof_rules.specs.declared.groups.Group.{Group}
use Rattle.proof_rules.specs.Tree.{Tree, Forest, leaf, weighted, branch, bar, omit, pick, none, more, tree_count}
use Rattle.proof_rules.specs.Certificate.{AreListed, AreGroupsIn, IsTreeIn, AreTreesIn}
use Rattle.proof_rules.specs.Text.{line, group_line, tree_lines, forest_lines}
use Rattle.certificate_lines.specs.Numbers.{IsSmall}
use Rattle.certificate_lines.proofs.Complete.{listed_few, groups_few}
use Rattle.cave_plan.proofs.NumberLemmas.{same_line, listed_small}
use Rattle.cave_plan.proofs.GroupTextLemmas.{split_lines, same_groups}

-- one small number
pub one_small : (a : ℕ) → a ≤ most_cells → All IsSmall (a ∷ [])
one_small a small = All-cons IsSmall a [] (omega arith) (All-nil IsSmall)

-- two small numbers
pub two_small : (a b : ℕ) → a ≤ most_cells → b ≤ most_cells → All IsSmall (a ∷ b ∷ [])
two_small a b small_a small_b =
    All-cons IsSmall a (b ∷ []) (omega arith) (All-cons IsSmall b [] (omega arith) (All-nil IsSmall))

-- a leaf's numbers
leaf_small : (count : ℕ) (cells : List ℕ) → count ≤ most_cells → AreListed count cells
    → All IsSmall (length cells ∷ cells)
leaf_small count cells few are = All-cons IsSmall (length cells) cells
    (let l = listed_few count cells are in omega arith) (listed_small count cells few are)

-- the number of a weighted leaf's groups
count_small : (count : ℕ) (groups : List Group) → count ≤ most_cells → AreGroupsIn count groups
    → All IsSmall (length groups ∷ [])
count_small count groups few are = All-cons IsSmall (length groups) []
    (let l = groups_few count groups are in omega arith) (All-nil IsSmall)

-- the byte that a tree's lines begin with
abbrev first_byte : Tree → ℕ
first_byte (leaf cells) = 76
first_byte (weighted groups) = 87
first_byte (branch cell kids) = 66
first_byte (bar place by kid) = 69
first_byte (omit cells kid) = 68
first_byte (pick place with without) = 80

-- they begin with it, whatever comes behind them
begins : (tree : Tree) (r : List (List ℕ)) → get_or (get_or (tree_lines tree ++ r) 0 []) 0 0 ≡ first_byte tree
begins (leaf cells) r = refl
begins (weighted groups) r = refl
begins (branch cell kids) r = refl
begins (bar place by kid) r = refl
begins (omit cells kid) r = refl
begins (pick place with without) r = refl

-- trees with the same lines begin with the same byte
same_byte : (a b : Tree) (r s : List (List ℕ)) → tree_lines a ++ r ≡ tree_lines b ++ s → first_byte a ≡ first_byte b
same_byte a b r s e =
    sym (begins a r) ∙ ap (λ (lines : List (List ℕ)). get_or (get_or lines 0 []) 0 0) e ∙ begins b s

module _ (m n : ℕ) (few_m : m ≤ most_cells) (few_n : n ≤ most_cells) where
  mutual
    -- a tree's lines, and what comes behind them
    pub one_tree : (a b : Tree) (r s : List (List ℕ)) → IsTreeIn m a → IsTreeIn n b
        → tree_lines a ++ r ≡ tree_lines b ++ s → (a ≡ b) × (r ≡ s)
    one_tree (leaf cells) (leaf others) r s in_a in_b e =
        let l = split_lines (line (codes "L") (length cells ∷ cells)) (line (codes "L") (length others ∷ others)) r
        s e in
        let numbers : length cells ∷ cells ≡ length others ∷ others =
        same_line (codes "L") (length cells ∷ cells) (length others ∷ others) (leaf_small m cells few_m in_a)
        (leaf_small n others few_n in_b) l.0 in
        let same : cells ≡ others = cc in (ap leaf same, l.1)
    one_tree (branch cell kids) (branch other trees) r s in_a in_b e =
        let l = split_lines (line (codes "B") (cell ∷ tree_count kids ∷ []))
        (line (codes "B") (other ∷ tree_count trees ∷ []))
        (forest_lines kids ++ r) (forest_lines trees ++ s) e in
        let small_a = two_small cell (tree_count kids) (let h = in_a.0 in omega arith)
        (let h = in_a.1 in omega arith) in
        let small_b = two_small other (tree_count trees) (let h = in_b.0 in omega arith)
        (let h = in_b.1 in omega arith) in
        let numbers : cell ∷ tree_count kids ∷ [] ≡ other ∷ tree_count trees ∷ [] =
        same_line (codes "B") (cell ∷ tree_count kids ∷ []) (other ∷ tree_count trees ∷ []) small_a small_b l.0 in
        let same : cell ≡ other = cc in
        let many : tree_count kids ≡ tree_count trees = cc in
        let below = one_forest kids trees r s many in_a.2 in_b.2 l.1 in
        let these = below.0 in (cc, below.1)
    one_tree (bar place by kid) (bar other well tree) r s in_a in_b e =
        let l = split_lines (line (codes "E") (place ∷ by ∷ [])) (line (codes "E") (other ∷ well ∷ []))
        (tree_lines kid ++ r) (tree_lines tree ++ s) e in
        let small_a = two_small place by (let h = in_a.0 in omega arith) (let h = in_a.1 in omega arith) in
        let small_b = two_small other well (let h = in_b.0 in omega arith) (let h = in_b.1 in omega arith) in
        let numbers : place ∷ by ∷ [] ≡ other ∷ well ∷ [] =
        same_line (codes "E") (place ∷ by ∷ []) (other ∷ well ∷ []) small_a small_b l.0 in
        let first : place ≡ other = cc in
        let second : by ≡ well = cc in
        let below = one_tree kid tree r s in_a.2 in_b.2 l.1 in
        let this = below.0 in (cc, below.1)
    one_tree (weighted groups) (weighted others) r s in_a in_b e =
        let l = split_lines (line (codes "W") (length groups ∷ [])) (line (codes "W") (length others ∷ []))
        (map group_line groups ++ r) (map group_line others ++ s) e in
        let numbers : length groups ∷ [] ≡ length others ∷ [] =
        same_line (codes "W") (length groups ∷ []) (length others ∷ []) (count_small m groups few_m in_a)
        (count_small n others few_n in_b) l.0 in
        let many : length groups ≡ length others = cc in
        let same = same_groups m n few_m few_n groups others r s many in_a.groups_are.each in_b.groups_are.each
        in_a.below in_b.below l.1 in
        (ap weighted same.0, same.1)
    one_tree (omit cells kid) (omit others tree) r s in_a in_b e =
        let l = split_lines (line (codes "D") (length cells ∷ cells)) (line (codes "D") (length others ∷ others))
        (tree_lines kid ++ r) (tree_lines tree ++ s) e in
        let numbers : length cells ∷ cells ≡ length others ∷ others =
        same_line (codes "D") (length cells ∷ cells) (length others ∷ others) (leaf_small m cells few_m in_a.0)
        (leaf_small n others few_n in_b.0) l.0 in
        let same : cells ≡ others = cc in
        let below = one_tree kid tree r s in_a.2 in_b.2 l.1 in
        let this = below.0 in (cc, below.1)
    one_tree (pick place with without) (pick other chosen barred) r s in_a in_b e =
        let l = split_lines (line (codes "P") (place ∷ [])) (line (codes "P") (other ∷ []))
        ((tree_lines with ++ tree_lines without) ++ r) ((tree_lines chosen ++ tree_lines barred) ++ s) e in
        let small_a = one_small place (let h = in_a.0 in omega arith) in
        let small_b = one_small other (let h = in_b.0 in omega arith) in
        let numbers : place ∷ [] ≡ other ∷ [] =
        same_line (codes "P") (place ∷ []) (other ∷ []) small_a small_b l.0 in
        let same : place ≡ other = cc in
        let f = append_assoc (tree_lines with) (tree_lines without) r in
        let g = append_assoc (tree_lines chosen) (tree_lines barred) s in
        let first = one_tree with chosen (tree_lines without ++ r) (tree_lines barred ++ s) in_a.1 in_b.1
        (sym f ∙ l.1 ∙ g) in
        let second = one_tree without barred r s in_a.2 in_b.2 first.1 in
        let one = first.0 in
        let two = second.0 in (cc, second.1)
    one_tree a b r s in_a in_b e = absurd (let same = same_byte a b r s e in omega (arith, same))

    -- as many trees' lines, and what comes behind them
    pub one_forest : (a b : Forest) (r s : List (List ℕ)) → tree_count a ≡ tree_count b → AreTreesIn m a
        → AreTreesIn n b
        → forest_lines a ++ r ≡ forest_lines b ++ s → (a ≡ b) × (r ≡ s)
    one_forest none none r s many in_a in_b e = (refl, e)
    one_forest none (more tree trees) r s many in_a in_b e = absurd (omega arith)
    one_forest (more kid kids) none r s many in_a in_b e = absurd (omega arith)
    one_forest (more kid kids) (more tree trees) r s many in_a in_b e =
        let f = append_assoc (tree_lines kid) (forest_lines kids) r in
        let g = append_assoc (tree_lines tree) (forest_lines trees) s in
        let first = one_tree kid tree (forest_lines kids ++ r) (forest_lines trees
        ++ s) in_a.0 in_b.0 (sym f ∙ e ∙ g) in
        let fewer : tree_count kids ≡ tree_count trees = omega arith in
        let rest = one_forest kids trees r s fewer in_a.1 in_b.1 first.1 in
        let this = first.0 in
        let these = rest.0 in (cc, rest.1)
