-- What a tree that closes a node says of the tree below its first node.
use Rattle.std.proofs.Common.{◌≡◌, ◌≢◌, refl, ℕ, ◌+◌, ◌<◌, ◌≤◌, List, [], ◌∷◌, ◌++◌, length, get_or, slice_index, take}
use Rattle.std.proofs.Common.{zero, suc, sym, subst, ◌∙◌, arith, append_assoc}
use Rattle.std.specs.Prelude.{◌↔◌, Bool, true, false, IsTrue}
use Rattle.std.proofs.lemmas.Bool.{true≢false, false≢true}
use Rattle.set_cover.specs.Bits.{Has, IsRowOf, IsWith, IsWithout}
use Rattle.set_cover.specs.Instance.{Instance, of_indices}
use Rattle.set_cover.proofs.BitLemmas.{row_push}
use Rattle.set_cover.proofs.ListedLemmas.{row_listed}
use Rattle.cave_model.specs.Coverage.{Coverage}
use Rattle.proof_rules.specs.Tree.{Tree, Forest, leaf, weighted, branch, bar, omit}
use Rattle.proof_rules.specs.declared.groups.Group.{Group}
use Rattle.proof_rules.specs.Omitted.{left_without, MayBeOmitted}
use Rattle.proof_rules.specs.Good.{Good, AreGood}
use Rattle.proof_tree.specs.declared.proof.Proof.{Proof}
use Rattle.proof_tree.specs.declared.proof.Proof.TheVariants.{Leaf, Weighted, Branch, Bar, Omit, Pick}
use Rattle.proof_tree.specs.Shape.{tree_of, forest_of}
use Rattle.proof_tree.proofs.OrderLemmas.{rises_from, one_order}
use Rattle.pack_bound.specs.Indices.{cell_indices}
use Rattle.pack_bound.specs.Judged.{MayBeLeaf, MayBeBarred, AreKidPlaces}
use Rattle.pack_bound.specs.Nodes.{NodeState, IsStateOf, IsKidAt, Closes}
use Rattle.tree_judges.specs.Decided.{HasNoBar, HasBarsOnTop, IsDecided, Decides, DecidesWithout, DecidesKids}
use Rattle.tree_judges.specs.Kids.{KidsSoFar, ClosesKids}
use Rattle.tree_judges.specs.Omission.{Avoids, MayBeBarredOver, ClosesWithout}
use Rattle.tree_judges.proofs.KidLemmas.{append_none}
use Rattle.tree_judges.proofs.DecidedLemmas.{good_avoids, good_over, bare_decided, decided_at}
use Rattle.tree_judges.proofs.BarLemmas.{closes_bar}
use Rattle.tree_judges.proofs.OmissionLemmas.{over_barred, bar_without, closes_without}
use Rattle.tree_judges.proofs.SameLemmas.{one_row, good_same, left_same}

-- ---- leaves, branches and bars

-- a leaf has cells that may be one, and enough
pub leaf_closes : (region : Instance) (state : NodeState) (floor : ℕ) (cells : List ℕ)
    → Closes region state floor (leaf cells)
    → MayBeLeaf region state cells × (floor ≤ length state.chosen + length cells)
leaf_closes region state floor cells closed =
    let barred = row_listed state.barred in (
      record { scattered = λ list listed. (closed.good list listed).0 },
      (closed.good barred.0 barred.1).1,
    )

-- a branch has an unlit cell, and trees that close its kids
pub branch_closes : (region : Instance) (state : NodeState) (floor cell : ℕ) (kids : Forest) → IsStateOf region state
    → Closes region state floor (branch cell kids)
    → Has state.unlit cell × ((places : List ℕ) → AreKidPlaces region state cell places
    → ClosesKids region state floor places kids)
branch_closes region state floor cell kids s closed =
    let barred = row_listed state.barred in (
      (s.unlit cell).1 (closed.good barred.0 barred.1).0,
      λ places are. record {
        good = λ list listed. (let g = closed.good list listed in let o = are.open_there list listed in
            subst (λ (l : List ℕ). AreGood (of_indices region) (cell_indices region) state.chosen list floor l kids)
            (one_order g.1 places (rises_from g.1 g.2.ascending) (rises_from places o.ascending)
            (λ z h. (o.exact z).1 ((g.2.exact z).0 h)) (λ z h. (g.2.exact z).1 ((o.exact z).0 h))) g.3);
      },
    )

-- a bar has a place that may be barred, and a tree that closes what is left then
pub bar_closes : (region : Instance) (old new : NodeState) (place by floor : ℕ) (tree : Tree)
    → Closes region old floor (bar place by tree)
    → MayBeBarred region old place by × (new.chosen ≡ old.chosen → IsWith old.barred place new.barred
    → Closes region new floor tree)
bar_closes region old new place by floor tree closed =
    let barred = row_listed old.barred in (
      record {
        inside = (closed.good barred.0 barred.1).0.legal;
        dominated = λ list listed. (closed.good list listed).0;
      },
      λ chosen with_it. record {
        good = λ list listed. subst
            (λ (l : List ℕ). Good (of_indices region) (cell_indices region) l list floor tree) (sym chosen)
            (good_same (of_indices region) (cell_indices region) old.chosen (barred.0 ++ place ∷ []) list floor tree
            (one_row (barred.0 ++ place ∷ []) list new.barred
            (row_push barred.0 old.barred new.barred place barred.1 with_it) listed)
            (closed.good barred.0 barred.1).1);
      },
    )

-- ---- kids

-- good kids are as many as their places
pub as_many_kids : (coverage : Coverage) (cells chosen barred : List ℕ) (floor : ℕ) (places : List ℕ)
    (proofs : List Proof) → AreGood coverage cells chosen barred floor places (forest_of proofs)
    → length places ≡ length proofs
as_many_kids coverage cells chosen barred floor [] [] g = omega arith
as_many_kids coverage cells chosen barred floor [] (k ∷ ks) g = absurd g
as_many_kids coverage cells chosen barred floor (p ∷ ps) [] g = absurd g
as_many_kids coverage cells chosen barred floor (p ∷ ps) (k ∷ ks) g =
    (let rest = as_many_kids coverage cells chosen (barred ++ p ∷ []) floor ps ks g.1 in omega arith)

-- the kid at an index is good with its place chosen and those before it barred
good_kid : (coverage : Coverage) (cells chosen barred : List ℕ) (floor : ℕ) (places : List ℕ) (proofs : List Proof)
    (i : ℕ) (d : Proof) → i < length places → AreGood coverage cells chosen barred floor places (forest_of proofs)
    → Good coverage cells (chosen ++ slice_index places i ∷ []) (barred ++ take i places) floor
    (tree_of (get_or proofs i d))
good_kid coverage cells chosen barred floor [] proofs i d h g = absurd (omega arith)
good_kid coverage cells chosen barred floor (p ∷ ps) [] i d h g = absurd g
good_kid coverage cells chosen barred floor (p ∷ ps) (k ∷ ks) zero d h g =
    subst (λ (l : List ℕ). Good coverage cells (chosen ++ p ∷ []) l floor (tree_of k)) (sym (append_none barred)) g.0
good_kid coverage cells chosen barred floor (p ∷ ps) (k ∷ ks) (suc i) d h g =
    subst (λ (l : List ℕ). Good coverage cells (chosen ++ slice_index ps i ∷ []) l floor (tree_of (get_or ks i d)))
    (append_assoc barred (p ∷ []) (take i ps))
    (good_kid coverage cells chosen (barred ++ p ∷ []) floor ps ks i d (omega arith) g.1)

-- where all kids are closed, the kid at an index is
pub kid_closes : (region : Instance) (state kid : NodeState) (floor : ℕ) (places barred : List ℕ)
    (proofs : List Proof) (i : ℕ) (d : Proof) (before : Forest) → i < length places
    → ClosesKids region state floor places (forest_of proofs)
    → KidsSoFar region state floor (take i places) barred before
    → IsKidAt region state barred (slice_index places i) kid
    → Closes region kid floor (tree_of (get_or proofs i d))
kid_closes region state kid floor places barred proofs i d before h closed so_far k =
    let list = row_listed state.barred in record {
      good = λ others listed. subst
          (λ (l : List ℕ). Good (of_indices region) (cell_indices region) l others floor (tree_of (get_or proofs i d)))
          (sym k.chosen)
          (good_same (of_indices region) (cell_indices region) (state.chosen ++ slice_index places i ∷ [])
          (list.0 ++ take i places) others floor (tree_of (get_or proofs i d))
          (one_row (list.0 ++ take i places) others kid.barred
          (subst (IsRowOf (list.0 ++ take i places)) (sym k.barred_is) (so_far.row list.0 list.1)) listed)
          (good_kid (of_indices region) (cell_indices region) state.chosen list.0 floor places proofs i d h
          (closed.good list.0 list.1)));
    }

-- ---- omissions

-- a bar that closes what is left without the cells may be left out, and what stands below closes what is left then
pub bar_parts : (region : Instance) (old new : NodeState) (omitted left : List ℕ) (place by floor : ℕ) (tree : Tree)
    → IsStateOf region old → IsWithout old.unlit omitted left
    → ClosesWithout region old omitted floor (bar place by tree)
    → MayBeBarredOver region old left place by × (new.chosen ≡ old.chosen → IsWith old.barred place new.barred
    → ClosesWithout region new omitted floor tree)
bar_parts region old new omitted left place by floor tree s w closed =
    let barred = row_listed old.barred in
    let these = row_listed omitted in (
      over_barred region old these.0 omitted left barred.0 place by s these.1 w barred.1
          (closed.good barred.0 these.0 barred.1 these.1).0,
      λ chosen with_it. record {
        good = λ list others listed row. subst
            (λ (l : List ℕ). Good (of_indices region) (left_without others (cell_indices region)) l list floor tree)
            (sym chosen)
            (good_same (of_indices region) (left_without others (cell_indices region)) old.chosen
            (barred.0 ++ place ∷ []) list floor tree
            (one_row (barred.0 ++ place ∷ []) list new.barred
            (row_push barred.0 old.barred new.barred place barred.1 with_it) listed)
            (closed.good barred.0 others barred.1 row).1);
      },
    )

-- an omission that closes what is left leaves out what it may, and what stands below closes the rest
pub omit_parts : (region : Instance) (state : NodeState) (cells omitted : List ℕ) (floor : ℕ) (tree : Tree)
    → Closes region state floor (omit cells tree) → MayBeOmitted (cell_indices region) cells
    × (IsRowOf cells omitted → ClosesWithout region state omitted floor tree)
omit_parts region state cells omitted floor tree closed =
    let barred = row_listed state.barred in (
      (closed.good barred.0 barred.1).0,
      λ row. record {
        good = λ list these listed other. subst
            (λ (l : List ℕ). Good (of_indices region) l state.chosen list floor tree)
            (left_same cells these (cell_indices region) (one_row cells these omitted row other))
            (closed.good list listed).1;
      },
    )

-- a tree without bars that closes what is left without the cells speaks of none, and closes all that is left
pub without_parts : (region : Instance) (state : NodeState) (omitted : List ℕ) (floor : ℕ) (tree : Tree)
    → ClosesWithout region state omitted floor tree
    → Avoids omitted tree × (HasNoBar tree → Closes region state floor tree)
without_parts region state omitted floor tree closed =
    let barred = row_listed state.barred in
    let these = row_listed omitted in (
      good_avoids (of_indices region) these.0 omitted these.1 (cell_indices region) state.chosen barred.0 floor tree
          (closed.good barred.0 these.0 barred.1 these.1),
      λ bare. record {
        good = λ list listed. good_over (of_indices region) these.0 (cell_indices region) state.chosen list floor tree
            bare (closed.good list these.0 listed these.1);
      },
    )

-- ---- answers

module _ (region : Instance) (state : NodeState) (floor : ℕ) where
  -- a leaf with too few cells
  pub leaf_few : (cells : List ℕ) → length state.chosen + length cells < floor
      → Decides region state floor (leaf cells) false
  leaf_few cells few = record {
    right = λ t. absurd (false≢true t);
    all = λ d closed. (let enough = (leaf_closes region state floor cells closed).1 in absurd (omega arith));
  }

  -- one with enough
  pub leaf_decides : (cells : List ℕ) (answer : Bool) → floor ≤ length state.chosen + length cells
      → IsTrue answer ↔ MayBeLeaf region state cells → Decides region state floor (leaf cells) answer
  leaf_decides cells answer enough is = record {
    right = λ t. record { good = λ barred listed. ((is.0 t).scattered barred listed, enough) };
    all = λ d closed. is.1 (leaf_closes region state floor cells closed).0;
  }

  -- a weighted leaf
  pub weighted_decides : (groups : List Group) (answer : Bool)
      → IsTrue answer ↔ Closes region state floor (weighted groups)
      → Decides region state floor (weighted groups) answer
  weighted_decides groups answer is = record { right = is.0; all = λ d closed. is.1 closed }

  -- a branch on a lit cell
  pub branch_lit : (cell : ℕ) (kids : Forest) → IsStateOf region state → (¬ Has state.unlit cell)
      → Decides region state floor (branch cell kids) false
  branch_lit cell kids s lit = record {
    right = λ t. absurd (false≢true t);
    all = λ d closed. absurd (lit (branch_closes region state floor cell kids s closed).0);
  }

  -- one on an unlit cell
  pub branch_decides : (cell : ℕ) (kids : Forest) (places : List ℕ) (answer : Bool) → IsStateOf region state
      → Has state.unlit cell → AreKidPlaces region state cell places
      → DecidesKids region state floor places kids answer → Decides region state floor (branch cell kids) answer
  branch_decides cell kids places answer s unlit are is = record {
    right = λ t. record {
      good = λ barred listed. (
        (s.unlit cell).0 unlit,
        places,
        are.open_there barred listed,
        (is.right t).good barred listed,
      );
    };
    all = λ d closed. is.all d ((branch_closes region state floor cell kids s closed).1 places are);
  }

  -- a bar of a place that may not be left out
  pub bar_refused : (place by : ℕ) (kid : Tree) → (¬ MayBeBarred region state place by)
      → Decides region state floor (bar place by kid) false
  bar_refused place by kid not = record {
    right = λ t. absurd (false≢true t);
    all = λ d closed. absurd (not (bar_closes region state state place by floor kid closed).0);
  }

  -- one that may
  pub bar_decides : (place by : ℕ) (kid : Tree) (new : NodeState) (answer : Bool)
      → MayBeBarred region state place by → new.chosen ≡ state.chosen → new.unlit ≡ state.unlit
      → IsWith state.barred place new.barred → Decides region new floor kid answer
      → Decides region state floor (bar place by kid) answer
  bar_decides place by kid new answer may chosen unlit with_it is = record {
    right = λ t. closes_bar region state new place by floor kid may chosen unlit with_it (is.right t);
    all = λ d closed. is.all d ((bar_closes region state new place by floor kid closed).1 chosen with_it);
  }

  -- an omission of cells that may not be left out
  pub omit_refused : (cells : List ℕ) (kid : Tree) → (¬ MayBeOmitted (cell_indices region) cells)
      → Decides region state floor (omit cells kid) false
  omit_refused cells kid not = record {
    right = λ t. absurd (false≢true t);
    all = λ d closed. absurd (not (omit_parts region state cells [] floor kid closed).0);
  }

  -- one of cells that may
  pub omit_decides : (cells omitted : List ℕ) (kid : Tree) (answer : Bool) → MayBeOmitted (cell_indices region) cells
      → IsRowOf cells omitted → DecidesWithout region state omitted floor kid answer
      → Decides region state floor (omit cells kid) answer
  omit_decides cells omitted kid answer may row is = record {
    right = λ t. record { good = λ barred listed. (may, (is.right t).good barred cells listed row) };
    all = λ d closed. is.all d ((omit_parts region state cells omitted floor kid closed).1 row);
  }

-- ---- below an omission

module _ (region : Instance) (state : NodeState) (omitted left : List ℕ) (floor : ℕ) where
  pub over_refused : (place by : ℕ) (kid : Tree) → IsStateOf region state → IsWithout state.unlit omitted left
      → (¬ MayBeBarredOver region state left place by)
      → DecidesWithout region state omitted floor (bar place by kid) false
  over_refused place by kid s w not = record {
    right = λ t. absurd (false≢true t);
    all = λ d closed. absurd (not (bar_parts region state state omitted left place by floor kid s w closed).0);
  }

  pub over_decides : (place by : ℕ) (kid : Tree) (new : NodeState) (answer : Bool) → IsStateOf region state
      → IsWithout state.unlit omitted left → MayBeBarredOver region state left place by
      → new.chosen ≡ state.chosen → IsWith state.barred place new.barred
      → DecidesWithout region new omitted floor kid answer
      → DecidesWithout region state omitted floor (bar place by kid) answer
  over_decides place by kid new answer s w may chosen with_it is = record {
    right = λ t. bar_without region state new omitted left place by floor kid s w may chosen with_it (is.right t);
    all = λ d closed. is.all d
        ((bar_parts region state new omitted left place by floor kid s w closed).1 chosen with_it);
  }

  -- a tree that speaks of a cell of the row
  pub not_avoiding : (tree : Tree) → (¬ Avoids omitted tree) → DecidesWithout region state omitted floor tree false
  not_avoiding tree not = record {
    right = λ t. absurd (false≢true t);
    all = λ d closed. absurd (not (without_parts region state omitted floor tree closed).0);
  }

  -- one that doesn't, and is no bar
  pub avoiding_decides : (tree : Tree) (answer : Bool) → Avoids omitted tree → (HasBarsOnTop tree → HasNoBar tree)
      → Decides region state floor tree answer → DecidesWithout region state omitted floor tree answer
  avoiding_decides tree answer avoids bare is = record {
    right = λ t. closes_without region state omitted floor tree avoids (is.right t);
    all = λ top closed. is.all (bare_decided tree (bare top))
        ((without_parts region state omitted floor tree closed).1 (bare top));
  }

-- ---- answers about kids

module _ (region : Instance) (state : NodeState) (floor : ℕ) (places : List ℕ) (proofs : List Proof) where
  -- there are more kids than trees, or fewer
  pub kids_refused : (length places ≢ length proofs)
      → DecidesKids region state floor places (forest_of proofs) false
  kids_refused ne = record {
    right = λ t. absurd (false≢true t);
    all = λ d closed. (let barred = row_listed state.barred in
        absurd (ne (as_many_kids (of_indices region) (cell_indices region) state.chosen barred.0 floor places proofs
        (closed.good barred.0 barred.1))));
  }

  -- a tree doesn't close its kid
  pub kid_refused : (kid : NodeState) (barred : List ℕ) (i : ℕ) (d : Proof) (before : Forest) (answer : Bool)
      → i < length places → i < length proofs → d ≡ get_or proofs i d
      → KidsSoFar region state floor (take i places) barred before
      → IsKidAt region state barred (slice_index places i) kid → Decides region kid floor (tree_of d) answer
      → answer ≡ false → DecidesKids region state floor places (forest_of proofs) false
  kid_refused kid barred i d before answer h g is so_far k decides no_more = record {
    right = λ t. absurd (false≢true t);
    all = λ all closed. absurd (true≢false (sym (decides.all
        (subst (λ (p : Proof). IsDecided (tree_of p)) (sym is) (decided_at proofs i d g all))
        (subst (λ (p : Proof). Closes region kid floor (tree_of p)) (sym is)
        (kid_closes region state kid floor places barred proofs i d before h closed so_far k))) ∙ no_more));
  }

  -- all close theirs
  pub kids_decide : (barred : List ℕ) → KidsSoFar region state floor places barred (forest_of proofs)
      → DecidesKids region state floor places (forest_of proofs) true
  kids_decide barred s = record {
    right = λ t. record { good = s.good };
    all = λ d closed. refl;
  }

-- ---- a tree that is no bar

-- it has bars on top alone just where it has none
pub top_bare : (proof : Proof) → ((place by : ℕ) (kid : Tree) → proof ≢ Bar place by kid)
    → HasBarsOnTop (tree_of proof) → HasNoBar (tree_of proof)
top_bare (Leaf cells) not t = tt
top_bare (Weighted groups) not t = tt
top_bare (Branch cell kids) not t = t
top_bare (Bar place by kid) not t = absurd (not place by kid refl)
top_bare (Omit cells kid) not t = t
top_bare (Pick place with without) not t = t
