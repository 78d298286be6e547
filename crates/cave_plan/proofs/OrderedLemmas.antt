-- A good tree with its leaves in order is as good, and lies in range.
use Rattle.std.proofs.Common.{◌≡◌, ℕ, zero, suc, ◌<◌, ◌≤◌, List, [], ◌∷◌, ◌++◌, length, All, Contains, refl, sym, subst}
use Rattle.std.proofs.Common.{arith, inl, inr, length-append}
use Rattle.std.specs.List.Sorted.{IsStrictlyIncreasing}
use Rattle.std.proofs.lemmas.Bool.{cases_eq}
use Rattle.std.proofs.lemmas.List.Elements.{Contains-append_left, Contains-push}
use Rattle.std.proofs.lemmas.List.Kept.{AllPairs-from_increasing}
use Rattle.cave_model.specs.Coverage.{Coverage}
use Rattle.cave_model.specs.Plan.{AreDistinct}
use Rattle.proof_rules.specs.Tree.{Tree, Forest, leaf, weighted, branch, bar, omit, pick, none, more, tree_count}
use Rattle.proof_rules.specs.Groups.{all_cells_of}
use Rattle.proof_rules.specs.Omitted.{left_without}
use Rattle.proof_rules.specs.Good.{Good, AreGood, AreScattered, IsUnlit}
use Rattle.proof_rules.specs.Certificate.{AreListed, IsTreeIn, AreTreesIn}
use Rattle.proof_rules.proofs.ListLemmas.{all_members, at_member, no_more}
use Rattle.proof_rules.proofs.OmitLemmas.{left_from}
use Rattle.proof_tree.specs.Order.{in_order, ordered_tree, ordered_trees}
use Rattle.proof_tree.proofs.OrderLemmas.{has_ordered, order_rises, from_rises, length_ordered}

-- ascending cells are distinct
pub rising_distinct : (cells : List ℕ) → IsStrictlyIncreasing cells → AreDistinct cells
rising_distinct cells up = λ i j d lt h e.
    (let less = AllPairs-from_increasing cells up i j d lt h in omega (arith, less, e))

-- distinct cells stay so when they are put in order
pub order_distinct : (cells : List ℕ) → AreDistinct cells → AreDistinct (in_order cells)
order_distinct cells d = rising_distinct (in_order cells) (from_rises (in_order cells) (order_rises cells d))

-- ---- as good

module _ (coverage : Coverage) where
  scattered_in_order : (cells chosen barred these : List ℕ) → AreScattered coverage cells chosen barred these
      → AreScattered coverage cells chosen barred (in_order these)
  scattered_in_order cells chosen barred these s = record {
    distinct = order_distinct these s.distinct;
    unlit = all_members (IsUnlit coverage cells chosen) (in_order these)
        (λ c h. at_member (IsUnlit coverage cells chosen) these c s.unlit (has_ordered these c h));
    apart = λ place a b legal free ha hb la lb. s.apart place a b legal free (has_ordered these a ha)
        (has_ordered these b hb) la lb;
  }

  mutual
    -- a good tree with its leaves in order is good
    pub good_in_order : (cells chosen barred : List ℕ) (floor : ℕ) (tree : Tree)
        → Good coverage cells chosen barred floor tree → Good coverage cells chosen barred floor (ordered_tree tree)
    good_in_order cells chosen barred floor (leaf these) g =
        (scattered_in_order cells chosen barred these g.0, omega (arith, g.1, length_ordered these))
    good_in_order cells chosen barred floor (weighted groups) g = g
    good_in_order cells chosen barred floor (branch cell kids) g =
        (g.0, g.1, g.2, all_in_order cells chosen barred floor g.1 kids g.3)
    good_in_order cells chosen barred floor (bar place by kid) g =
        (g.0, good_in_order cells chosen (barred ++ place ∷ []) floor kid g.1)
    good_in_order cells chosen barred floor (omit these kid) g =
        (g.0, good_in_order (left_without these cells) chosen barred floor kid g.1)
    good_in_order cells chosen barred floor (pick place with without) g = (
      g.0,
      good_in_order cells (chosen ++ place ∷ []) barred floor with g.1,
      good_in_order cells chosen (barred ++ place ∷ []) floor without g.2,
    )

    all_in_order : (cells chosen barred : List ℕ) (floor : ℕ) (places : List ℕ) (trees : Forest)
        → AreGood coverage cells chosen barred floor places trees
        → AreGood coverage cells chosen barred floor places (ordered_trees trees)
    all_in_order cells chosen barred floor [] none g = tt
    all_in_order cells chosen barred floor [] (more t ts) g = absurd g
    all_in_order cells chosen barred floor (p ∷ ps) none g = absurd g
    all_in_order cells chosen barred floor (p ∷ ps) (more t ts) g = (
      good_in_order cells (chosen ++ p ∷ []) barred floor t g.0,
      all_in_order cells chosen (barred ++ p ∷ []) floor ps ts g.1,
    )

-- ---- in range

-- the numbers below
abbrev below : ℕ → List ℕ
below zero = []
below (suc n) = below n ++ n ∷ []

-- a smaller number is among those below
is_below : (n x : ℕ) → x < n → Contains (below n) x
is_below zero x lt = absurd (omega arith)
is_below (suc n) x lt = elim (cases_eq x n) [
  | inl e ↦ subst (λ (y : ℕ). Contains (below n ++ n ∷ []) y) (sym e) (Contains-push (below n) n)
  | inr ne ↦ Contains-append_left (below n) (n ∷ []) x (is_below n x (omega (arith, ne, lt)))
]

-- there are as many numbers below as the number says
length_below : (n : ℕ) → length (below n) ≡ n
length_below zero = refl
length_below (suc n) = (let rest = length_below n in omega (arith, rest, length-append (below n) (n ∷ [])))

-- distinct numbers below one are no more than it says
pub no_more_than : (xs : List ℕ) (n : ℕ) → AreDistinct xs → ((x : ℕ) → Contains xs x → x < n) → length xs ≤ n
no_more_than xs n d inside = (let le = no_more xs (below n) d (λ x h. is_below n x (inside x h)) in
    omega (arith, le, length_below n))

-- distinct cells of the box, in order, are listed as a certificate lists them
pub listed_in_order : (count : ℕ) (xs : List ℕ) → AreDistinct xs → ((x : ℕ) → Contains xs x → x < count)
    → AreListed count (in_order xs)
listed_in_order count xs d inside = record {
  ascending = from_rises (in_order xs) (order_rises xs d);
  below = all_members (λ cell. cell < count) (in_order xs) (λ x h. inside x (has_ordered xs x h));
}

module _ (coverage : Coverage) (count : ℕ) (places_inside : (p : ℕ) → coverage.Place p → p < count) where
  as_many : (cells chosen barred : List ℕ) (floor : ℕ) (places : List ℕ) (trees : Forest)
      → AreGood coverage cells chosen barred floor places trees → tree_count (ordered_trees trees) ≡ length places
  as_many cells chosen barred floor [] none g = refl
  as_many cells chosen barred floor [] (more t ts) g = absurd g
  as_many cells chosen barred floor (p ∷ ps) none g = absurd g
  as_many cells chosen barred floor (p ∷ ps) (more t ts) g =
      (let rest = as_many cells chosen (barred ++ p ∷ []) floor ps ts g.1 in omega (arith, rest))

  -- all of the cells are in range
  abbrev AreInside : List ℕ → Type 0
  AreInside cells = (c : ℕ) → Contains cells c → c < count

  -- and so are those of them that aren't lit
  unlit_inside : (cells chosen these : List ℕ) → AreInside cells → All (IsUnlit coverage cells chosen) these
      → AreInside these
  unlit_inside cells chosen these inside unlit x h =
      inside x (at_member (IsUnlit coverage cells chosen) these x unlit h).of_it

  mutual
    -- and all its cells are in range
    pub tree_in_range : (cells : List ℕ) → AreInside cells → (chosen barred : List ℕ) (floor : ℕ) (tree : Tree)
        → Good coverage cells chosen barred floor tree → IsTreeIn count (ordered_tree tree)
    tree_in_range cells inside chosen barred floor (leaf these) g =
        listed_in_order count these g.0.distinct (unlit_inside cells chosen these inside g.0.unlit)
    tree_in_range cells inside chosen barred floor (weighted groups) g = record {
      groups_are = g.0.groups_are;
      below = all_members (λ cell. cell < count) (all_cells_of groups)
          (unlit_inside cells chosen (all_cells_of groups) inside g.0.unlit);
    }
    tree_in_range cells inside chosen barred floor (branch cell kids) g =
        (let few = no_more_than g.1 count (rising_distinct g.1 g.2.ascending)
        (λ p h. places_inside p ((g.2.exact p).0 h).legal) in
        let same = as_many cells chosen barred floor g.1 kids g.3 in
        (inside cell g.0.of_it, omega (arith, few, same), trees_in_range cells inside chosen barred floor g.1 kids g.3))
    tree_in_range cells inside chosen barred floor (bar place by kid) g = (
      places_inside place g.0.legal,
      places_inside by g.0.by_legal,
      tree_in_range cells inside chosen (barred ++ place ∷ []) floor kid g.1,
    )
    tree_in_range cells inside chosen barred floor (omit these kid) g = (
      record {
        ascending = g.0.ascending;
        below = all_members (λ cell. cell < count) these
            (λ x h. inside x (at_member (Contains cells) these x g.0.of_them h));
      },
      g.0.filled,
      tree_in_range (left_without these cells) (λ c h. inside c (left_from these cells c h)) chosen barred floor kid
          g.1,
    )
    tree_in_range cells inside chosen barred floor (pick place with without) g = (
      places_inside place g.0.legal,
      tree_in_range cells inside (chosen ++ place ∷ []) barred floor with g.1,
      tree_in_range cells inside chosen (barred ++ place ∷ []) floor without g.2,
    )

    trees_in_range : (cells : List ℕ) → AreInside cells → (chosen barred : List ℕ) (floor : ℕ) (places : List ℕ)
        (trees : Forest) → AreGood coverage cells chosen barred floor places trees
        → AreTreesIn count (ordered_trees trees)
    trees_in_range cells inside chosen barred floor [] none g = tt
    trees_in_range cells inside chosen barred floor [] (more t ts) g = absurd g
    trees_in_range cells inside chosen barred floor (p ∷ ps) none g = absurd g
    trees_in_range cells inside chosen barred floor (p ∷ ps) (more t ts) g = (
      tree_in_range cells inside (chosen ++ p ∷ []) barred floor t g.0,
      trees_in_range cells inside chosen (barred ++ p ∷ []) floor ps ts g.1,
    )
