-- Trees that were numbered, before those that were not yet.
use Rattle.std.proofs.Common.{◌≡◌, ◌<◌, ◌≤◌, ℕ, List, [], ◌∷◌, ◌++◌, length, refl, ap, sym, ◌∙◌, arith}
use Rattle.proof_rules.specs.Tree.{Tree, Forest, bar, none, more}
use Rattle.proof_tree.specs.declared.proof.Proof.{Proof}
use Rattle.proof_tree.specs.Shape.{tree_of, forest_of, tree_size, forest_size}
use Rattle.set_cover.specs.Instance.{Instance}
use Rattle.pack_bound.specs.Indices.{place_number}
use Rattle.proof_tree.specs.Bars.{wrapped}
use Rattle.proof_tree.specs.declared.bars.Bar.{Bar}
use Rattle.proof_tree.proofs.BarLemmas.{wrapped_push}
use Rattle.pack_bound.specs.Naming.{numbered, all_numbered}

abbrev pub joined : List Proof → Forest → Forest
joined [] trees = trees
joined (p ∷ ps) trees = more (tree_of p) (joined ps trees)

-- one more tree goes before those that follow
pub joined_push : (proofs : List Proof) (proof : Proof) (trees : Forest)
    → joined (proofs ++ proof ∷ []) trees ≡ joined proofs (more (tree_of proof) trees)
joined_push [] proof trees = refl
joined_push (p ∷ ps) proof trees = ap (more (tree_of p)) (joined_push ps proof trees)

-- with no tree to follow, the trees are those of the list
pub joined_none : (proofs : List Proof) → joined proofs none ≡ forest_of proofs
joined_none [] = refl
joined_none (p ∷ ps) = ap (more (tree_of p)) (joined_none ps)

-- what is kept while trees are taken from the front of a list, one after another
pub record NumberedSoFar (region : Instance) (trees rest proofs : List Proof) : Type 0 where
  pub whole : joined proofs (all_numbered region (forest_of rest)) ≡ all_numbered region (forest_of trees)
  pub part : forest_size (forest_of rest) ≤ forest_size (forest_of trees)

-- before the first tree none is numbered
pub so_far_none : (region : Instance) (trees rest proofs : List Proof) → proofs ≡ [] → rest ≡ trees
    → NumberedSoFar region trees rest proofs
so_far_none region trees rest proofs e f = record {
  whole = ap (λ (l : List Proof). joined l (all_numbered region (forest_of rest))) e
      ∙ ap (λ (l : List Proof). all_numbered region (forest_of l)) f;
  part = omega (arith, ap (λ (l : List Proof). forest_size (forest_of l)) f);
}

-- one more tree is numbered
pub so_far_more : (region : Instance) (trees rest left proofs more_proofs : List Proof) (tree proof : Proof)
    → NumberedSoFar region trees rest proofs
    → rest ≡ tree ∷ left → more_proofs ≡ proofs ++ proof ∷ [] → tree_of proof ≡ numbered region (tree_of tree)
    → NumberedSoFar region trees left more_proofs
so_far_more region trees rest left proofs more_proofs tree proof s e f g = record {
  whole = ap (λ (l : List Proof). joined l (all_numbered region (forest_of left))) f
      ∙ joined_push proofs proof (all_numbered region (forest_of left))
      ∙ ap (λ (t : Tree). joined proofs (more t (all_numbered region (forest_of left)))) g
      ∙ ap (λ (l : List Proof). joined proofs (all_numbered region (forest_of l))) (sym e)
      ∙ s.whole;
  part = omega (arith, s.part, ap (λ (l : List Proof). forest_size (forest_of l)) e);
}

-- a tree that is still to come is smaller than all trees
pub so_far_falls : (region : Instance) (trees rest left proofs : List Proof) (tree : Proof)
    → NumberedSoFar region trees rest proofs → rest ≡ tree ∷ left
    → tree_size (tree_of tree) < forest_size (forest_of trees)
so_far_falls region trees rest left proofs tree s e =
    omega (arith, s.part, ap (λ (l : List Proof). forest_size (forest_of l)) e)

-- after the last tree all are numbered
pub so_far_all : (region : Instance) (trees rest proofs : List Proof) → NumberedSoFar region trees rest proofs
    → length rest ≡ 0 → forest_of proofs ≡ all_numbered region (forest_of trees)
so_far_all region trees [] proofs s e = sym (joined_none proofs) ∙ s.whole
so_far_all region trees (t ∷ ts) proofs s e = absurd (omega arith)

-- one place more that is left out
pub bars_more : (region : Instance) (bars more_bars : List Bar) (b : Bar) (place by : ℕ) (rest kid left whole : Tree)
    → rest ≡ bar place by kid → left ≡ kid
    → b.place ≡ place_number region place → b.by ≡ place_number region by → more_bars ≡ bars ++ b ∷ []
    → wrapped bars (numbered region rest) ≡ whole → wrapped more_bars (numbered region left) ≡ whole
bars_more region bars more_bars b place by rest kid left whole is same e f g kept =
    ap (λ (l : List Bar). wrapped l (numbered region left)) g
    ∙ wrapped_push bars b (numbered region left)
    ∙ ap (λ (t : Tree). wrapped bars (bar b.place b.by (numbered region t))) same
    ∙ ap (λ (n : ℕ). wrapped bars (bar n b.by (numbered region kid))) e
    ∙ ap (λ (n : ℕ). wrapped bars (bar (place_number region place) n (numbered region kid))) f
    ∙ ap (λ (t : Tree). wrapped bars (numbered region t)) (sym is)
    ∙ kept
