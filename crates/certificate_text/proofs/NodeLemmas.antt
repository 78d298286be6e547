-- The text of a tree from that of its parts, on its way to a writer.
use Rattle.std.proofs.Common.{◌≡◌, ℕ, zero, suc, ◌+◌, ◌<◌, List, [], ◌∷◌, ◌++◌, length, drop, get_or, Option}
use Rattle.std.proofs.Common.{refl, sym, ap, subst, ◌∙◌, arith, append_assoc}
use Rattle.std.specs.Prelude.{codes}
use Rattle.std.specs.Ordering.{nat_cmp}
use Rattle.std.specs.List.Sorted.{IsPermutation, IsSorted}
use Rattle.std.proofs.lemmas.List.{append-nil, drop_more}
use Rattle.std.proofs.lemmas.Grind.{flat_map-append}
use Rattle.std.proofs.lemmas.List.Folds.{flat_map-map}
use Rattle.std.proofs.lemmas.List.Sorted.{IsPermutation-sym, Contains-permutation}
use Rattle.cave_model.specs.Plan.{AreDistinct}
use Rattle.set_cover.proofs.OrderLemmas.{sorted_rises}
use Rattle.proof_rules.specs.declared.groups.Group.{Group}
use Rattle.proof_rules.specs.Tree.{Tree, Forest, weighted, branch, pick, none, more, tree_count}
use Rattle.proof_rules.specs.Text.{ended, line, group_line, tree_lines, forest_lines}
use Rattle.certificate_text.specs.Lines.{groups_text, tree_text, forest_text, HaveDistinctCells}
use Rattle.proof_tree.specs.Order.{in_order, ordered_tree, ordered_trees}
use Rattle.proof_tree.specs.Shape.{tree_of, forest_of, tree_size, forest_size}
use Rattle.certificate_text.specs.Sending.{SendsAll, SendsPart}
use Rattle.certificate_text.specs.declared.sink.Sink.{Sink}
use Rattle.proof_tree.specs.declared.proof.Proof.{Proof}
use Rattle.proof_tree.proofs.OrderLemmas.{order_is}
use Rattle.certificate_text.proofs.SentLemmas.{sends_none, sends_then, sends_part, sends_more}

-- ---- texts

-- a line that is all there is
pub one_line : (text : List ℕ) → text ++ 10 ∷ [] ≡ ended (text ∷ [])
one_line text = sym (append-nil (text ++ 10 ∷ []))

-- the line of a weighted leaf and those of its groups are its text
pub weighted_text : (groups : List Group) → (line (codes "W") (length groups ∷ []) ++ 10 ∷ []) ++ groups_text groups
    ≡ tree_text (weighted groups)
weighted_text groups = ap (λ (l : List ℕ). (line (codes "W") (length groups ∷ []) ++ 10 ∷ []) ++ l)
    (sym (flat_map-map (λ text. text ++ 10 ∷ []) group_line groups))

-- trees with ordered leaves are as many
ordered_count : (trees : Forest) → tree_count (ordered_trees trees) ≡ tree_count trees
ordered_count none = refl
ordered_count (more tree trees) = ap (λ (n : ℕ). 1 + n) (ordered_count trees)

-- a list of trees has as many as were listed
pub count_trees : (trees : List Proof) → tree_count (forest_of trees) ≡ length trees
count_trees [] = refl
count_trees (t ∷ ts) = (let rest = count_trees ts in omega (arith, rest))

-- a branch's line and the text of its kids are its text
pub branch_text : (cell count : ℕ) (kids : Forest) → count ≡ tree_count kids
    → (line (codes "B") (cell ∷ count ∷ []) ++ 10 ∷ []) ++ forest_text kids ≡ tree_text (branch cell kids)
branch_text cell count kids e = ap (λ (n : ℕ). (line (codes "B") (cell ∷ n ∷ []) ++ 10 ∷ []) ++ forest_text kids)
    (e ∙ sym (ordered_count kids))

-- a pick's line and the texts of its trees are its text
pub pick_text : (place : ℕ) (with without : Tree)
    → (line (codes "P") (place ∷ []) ++ 10 ∷ []) ++ (tree_text with ++ tree_text without)
    ≡ tree_text (pick place with without)
pick_text place with without = ap (λ (l : List ℕ). (line (codes "P") (place ∷ []) ++ 10 ∷ []) ++ l)
    (sym (flat_map-append (λ text. text ++ 10 ∷ []) (tree_lines (ordered_tree with))
    (tree_lines (ordered_tree without))))

-- the text of a tree and that of those after it
pub more_text : (tree : Tree) (trees : Forest) → tree_text tree ++ forest_text trees ≡ forest_text (more tree trees)
more_text tree trees = sym (flat_map-append (λ text. text ++ 10 ∷ []) (tree_lines (ordered_tree tree))
    (forest_lines (ordered_trees trees)))

-- ---- a row of trees

-- the trees up to one were sent, and the others are to come
pub record SentUpTo {W : Type 0} (contents : W → Option (List ℕ)) (old new : Sink W) (trees : List Proof) (index : ℕ)
    : Type 0 where
  pub text : List ℕ
  pub sent : SendsAll contents old new text
  pub parts : text ++ forest_text (forest_of (drop index trees)) ≡ forest_text (forest_of trees)
  pub distinct : HaveDistinctCells (forest_of (drop index trees))

-- before the first tree nothing was sent
pub none_sent : {W : Type 0} (contents : W → Option (List ℕ)) (old : Sink W) (trees : List Proof)
    → HaveDistinctCells (forest_of trees) → SentUpTo contents old old trees 0
none_sent contents old trees distinct = record {
  text = [];
  sent = sends_none contents old;
  parts = refl;
  distinct = distinct;
}

-- the trees that are to come have distinct cells
pub next_distinct : {W : Type 0} (contents : W → Option (List ℕ)) (old new : Sink W) (trees : List Proof) (index : ℕ)
    (d : Proof) → index < length trees → SentUpTo contents old new trees index
    → HaveDistinctCells (forest_of (get_or trees index d ∷ drop (index + 1) trees))
next_distinct contents old new trees index d lt s = subst (λ (l : List Proof). HaveDistinctCells (forest_of l))
    (drop_more trees index d lt) s.distinct

-- the next tree's text follows what was sent
next_parts : {W : Type 0} (contents : W → Option (List ℕ)) (old new : Sink W) (trees : List Proof) (index : ℕ)
    (d : Proof) → index < length trees → (s : SentUpTo contents old new trees index)
    → s.text ++ (tree_text (tree_of (get_or trees index d)) ++ forest_text (forest_of (drop (index + 1) trees))) ≡
    forest_text (forest_of trees)
next_parts contents old new trees index d lt s =
    ap (λ (l : List ℕ). s.text ++ l) (more_text (tree_of (get_or trees index d)) (forest_of (drop (index + 1) trees)))
    ∙ ap (λ (l : List Proof). s.text ++ forest_text (forest_of l)) (sym (drop_more trees index d lt)) ∙ s.parts

-- where the next tree is sent, all up to it are
pub one_sent : {W : Type 0} (contents : W → Option (List ℕ)) (old new next : Sink W) (trees : List Proof) (index : ℕ)
    (d : Proof) → index < length trees → SentUpTo contents old new trees index
    → SendsAll contents new next (tree_text (tree_of (get_or trees index d)))
    → SentUpTo contents old next trees (index + 1)
one_sent contents old new next trees index d lt s p = record {
  text = s.text ++ tree_text (tree_of (get_or trees index d));
  sent = sends_then contents old new next s.text (tree_text (tree_of (get_or trees index d))) s.sent p;
  parts = append_assoc s.text (tree_text (tree_of (get_or trees index d)))
      (forest_text (forest_of (drop (index + 1) trees))) ∙ next_parts contents old new trees index d lt s;
  distinct = (next_distinct contents old new trees index d lt s).1;
}

-- one wasn't sent
pub failed_sent : {W : Type 0} (contents : W → Option (List ℕ)) (old new next : Sink W) (trees : List Proof)
    (index : ℕ) (d : Proof) → index < length trees → SentUpTo contents old new trees index
    → SendsPart contents new next (tree_text (tree_of (get_or trees index d)))
    → SendsPart contents old next (forest_text (forest_of trees))
failed_sent contents old new next trees index d lt s part =
    let here = tree_text (tree_of (get_or trees index d)) in
    let rest = forest_text (forest_of (drop (index + 1) trees)) in
    subst (SendsPart contents old next) (next_parts contents old new trees index d lt s)
    (sends_part contents old new next s.text (here ++ rest) s.sent (sends_more contents new next here rest part))

-- a tree of a list is smaller than the list
pub tree_below : (proofs : List Proof) (i : ℕ) (d : Proof) → i < length proofs
    → tree_size (tree_of (get_or proofs i d)) < forest_size (forest_of proofs)
tree_below [] i d h = absurd (omega arith)
tree_below (p ∷ ps) zero d h = omega arith
tree_below (p ∷ ps) (suc i) d h = (let rest = tree_below ps i d (omega arith) in omega arith)

-- ---- cells

-- distinct cells that a sort put in order
pub sorted_cells : (cells copy sorted : List ℕ) → AreDistinct cells → copy ≡ cells → IsPermutation copy sorted
    → IsSorted nat_cmp sorted → sorted ≡ in_order cells
sorted_cells cells copy sorted d same moved is =
    let m = subst (λ (l : List ℕ). IsPermutation l sorted) same moved in
    order_is cells sorted d (sorted_rises cells sorted d m is) (λ y h. Contains-permutation cells sorted y m h)
    (λ y h. Contains-permutation sorted cells y (IsPermutation-sym cells sorted m) h)
