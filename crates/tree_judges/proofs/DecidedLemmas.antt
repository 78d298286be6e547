-- Trees that close what is left without some cells: they speak of none of these, and without bars they close all.
use Rattle.std.proofs.Common.{All, ℕ, ◌<◌, List, [], ◌∷◌, ◌++◌, length, Contains, get_or, zero, suc, sym}
use Rattle.std.proofs.Common.{subst, arith}
use Rattle.std.proofs.lemmas.List.Elements.{Contains-get_or}
use Rattle.cave_model.specs.Coverage.{Coverage}
use Rattle.set_cover.specs.Bits.{Has, IsRowOf}
use Rattle.proof_rules.specs.declared.groups.Group.{Group}
use Rattle.proof_rules.specs.Groups.{all_cells_of}
use Rattle.proof_rules.specs.Tree.{Tree, Forest, leaf, weighted, branch, bar, omit, pick, none, more}
use Rattle.proof_rules.specs.Omitted.{left_without, MayBeOmitted}
use Rattle.proof_rules.specs.Good.{IsUnlit, AreScattered, AreWeighted, Good, AreGood}
use Rattle.proof_rules.proofs.GroupLemmas.{cell_of_group, cell_of_share}
use Rattle.proof_rules.proofs.ListLemmas.{all_members, at_member}
use Rattle.proof_rules.proofs.OmitLemmas.{left_from, left_is_other}
use Rattle.proof_tree.specs.declared.proof.Proof.{Proof}
use Rattle.proof_tree.specs.Shape.{tree_of, forest_of}
use Rattle.tree_judges.specs.Omission.{CellsAvoid, GroupsAvoid, Avoids, AllAvoid}
use Rattle.tree_judges.specs.Decided.{HasNoBar, HaveNoBar, HasBarsOnTop, IsDecided, AreDecided}
use Rattle.tree_judges.proofs.OmissionLemmas.{left_swap}

-- ---- trees without bars are decided

mutual
  pub bare_decided : (tree : Tree) → HasNoBar tree → IsDecided tree
  bare_decided (leaf cells) b = tt
  bare_decided (weighted groups) b = tt
  bare_decided (branch cell kids) b = all_bare_decided kids b
  bare_decided (bar place by kid) b = absurd b
  bare_decided (omit cells kid) b = bare_on_top kid b
  bare_decided (pick place with without) b = (bare_decided with b.0, bare_decided without b.1)

  pub all_bare_decided : (kids : Forest) → HaveNoBar kids → AreDecided kids
  all_bare_decided none b = tt
  all_bare_decided (more tree trees) b = (bare_decided tree b.0, all_bare_decided trees b.1)

  pub bare_on_top : (tree : Tree) → HasNoBar tree → HasBarsOnTop tree
  bare_on_top (leaf cells) b = tt
  bare_on_top (weighted groups) b = tt
  bare_on_top (branch cell kids) b = b
  bare_on_top (bar place by kid) b = absurd b
  bare_on_top (omit cells kid) b = b
  bare_on_top (pick place with without) b = b

-- each of the trees is
pub decided_at : (proofs : List Proof) (i : ℕ) (d : Proof) → i < length proofs → AreDecided (forest_of proofs)
    → IsDecided (tree_of (get_or proofs i d))
decided_at [] i d h all = absurd (omega arith)
decided_at (p ∷ ps) zero d h all = all.0
decided_at (p ∷ ps) (suc i) d h all = decided_at ps i d (omega arith) all.1

-- ---- what closes without the cells doesn't speak of them

module _ (coverage : Coverage) (these omitted : List ℕ) (listed : IsRowOf these omitted) where
  -- a cell that is left isn't in the row
  other : (cells : List ℕ) (cell : ℕ) → Contains (left_without these cells) cell → ¬ Has omitted cell
  other cells cell c h = left_is_other these cells cell c ((listed.exact cell).0 h)

  -- none of an omission is
  all_other : (cells others : List ℕ) → ((c : ℕ) → Contains others c → Contains (left_without these cells) c)
      → CellsAvoid omitted others
  all_other cells others left = all_members (λ c. ¬ Has omitted c) others (λ c h. other cells c (left c h))

  -- none of the groups has one
  groups_other : (cells chosen : List ℕ) (groups : List Group)
      → ((c : ℕ) → Contains (all_cells_of groups) c → IsUnlit coverage (left_without these cells) chosen c)
      → GroupsAvoid omitted groups
  groups_other cells chosen groups unlit = λ i d h j e k.
      (let shares = (get_or groups i d).shares in
      other cells (get_or shares j e).cell (unlit (get_or shares j e).cell
      (cell_of_group groups i (get_or shares j e).cell d h
      (cell_of_share shares (get_or shares j e) (Contains-get_or shares j e k)))).of_it)

mutual
  pub good_avoids : (coverage : Coverage) (these omitted : List ℕ) → IsRowOf these omitted
      → (cells chosen barred : List ℕ) (floor : ℕ) (tree : Tree)
      → Good coverage (left_without these cells) chosen barred floor tree → Avoids omitted tree
  good_avoids coverage these omitted listed cells chosen barred floor (leaf leaves) g =
      all_other coverage these omitted listed cells leaves
      (λ c h. (at_member (IsUnlit coverage (left_without these cells) chosen) leaves c g.0.unlit h).of_it)
  good_avoids coverage these omitted listed cells chosen barred floor (weighted groups) g =
      groups_other coverage these omitted listed cells chosen groups
      (λ c h. at_member (IsUnlit coverage (left_without these cells) chosen) (all_cells_of groups) c g.0.unlit h)
  good_avoids coverage these omitted listed cells chosen barred floor (branch cell kids) g = (
    other coverage these omitted listed cells cell g.0.of_it,
    are_good_avoid coverage these omitted listed cells chosen barred floor g.1 kids g.3,
  )
  good_avoids coverage these omitted listed cells chosen barred floor (bar place by kid) g =
      good_avoids coverage these omitted listed cells chosen (barred ++ place ∷ []) floor kid g.1
  good_avoids coverage these omitted listed cells chosen barred floor (omit others kid) g = (
    all_other coverage these omitted listed cells others
        (λ c h. at_member (Contains (left_without these cells)) others c g.0.of_them h),
    good_avoids coverage these omitted listed (left_without others cells) chosen barred floor kid
        (subst (λ (l : List ℕ). Good coverage l chosen barred floor kid) (sym (left_swap these others cells)) g.1),
  )
  good_avoids coverage these omitted listed cells chosen barred floor (pick place with without) g = (
    good_avoids coverage these omitted listed cells (chosen ++ place ∷ []) barred floor with g.1,
    good_avoids coverage these omitted listed cells chosen (barred ++ place ∷ []) floor without g.2,
  )

  pub are_good_avoid : (coverage : Coverage) (these omitted : List ℕ) → IsRowOf these omitted
      → (cells chosen barred : List ℕ) (floor : ℕ) (places : List ℕ) (kids : Forest)
      → AreGood coverage (left_without these cells) chosen barred floor places kids → AllAvoid omitted kids
  are_good_avoid coverage these omitted listed cells chosen barred floor [] none g = tt
  are_good_avoid coverage these omitted listed cells chosen barred floor [] (more tree trees) g = absurd g
  are_good_avoid coverage these omitted listed cells chosen barred floor (place ∷ places) none g = absurd g
  are_good_avoid coverage these omitted listed cells chosen barred floor (place ∷ places) (more tree trees) g = (
    good_avoids coverage these omitted listed cells (chosen ++ place ∷ []) barred floor tree g.0,
    are_good_avoid coverage these omitted listed cells chosen (barred ++ place ∷ []) floor places trees g.1,
  )

-- ---- without bars it closes all that is left

module _ (coverage : Coverage) (these cells chosen : List ℕ) where
  -- an unlit cell of what is left is one of all
  unlit_over : (cell : ℕ) → IsUnlit coverage (left_without these cells) chosen cell → IsUnlit coverage cells chosen cell
  unlit_over cell u = record { of_it = left_from these cells cell u.of_it; unlit = u.unlit }

  all_over : (others : List ℕ) → All (IsUnlit coverage (left_without these cells) chosen) others
      → All (IsUnlit coverage cells chosen) others
  all_over others all = all_members (IsUnlit coverage cells chosen) others
      (λ c h. unlit_over c (at_member (IsUnlit coverage (left_without these cells) chosen) others c all h))

  scattered_over : (barred leaves : List ℕ) → AreScattered coverage (left_without these cells) chosen barred leaves
      → AreScattered coverage cells chosen barred leaves
  scattered_over barred leaves s =
      record { distinct = s.distinct; unlit = all_over leaves s.unlit; apart = s.apart }

  weighted_over : (barred : List ℕ) (groups : List Group)
      → AreWeighted coverage (left_without these cells) chosen barred groups
      → AreWeighted coverage cells chosen barred groups
  weighted_over barred groups w = record {
    groups_are = w.groups_are;
    distinct = w.distinct;
    unlit = all_over (all_cells_of groups) w.unlit;
    each = w.each;
    apart = w.apart;
  }

  omitted_over : (others : List ℕ) → MayBeOmitted (left_without these cells) others → MayBeOmitted cells others
  omitted_over others m = record {
    filled = m.filled;
    ascending = m.ascending;
    of_them = all_members (Contains cells) others
        (λ c h. left_from these cells c (at_member (Contains (left_without these cells)) others c m.of_them h));
  }

mutual
  pub good_over : (coverage : Coverage) (these cells chosen barred : List ℕ) (floor : ℕ) (tree : Tree) → HasNoBar tree
      → Good coverage (left_without these cells) chosen barred floor tree → Good coverage cells chosen barred floor tree
  good_over coverage these cells chosen barred floor (leaf leaves) b g =
      (scattered_over coverage these cells chosen barred leaves g.0, g.1)
  good_over coverage these cells chosen barred floor (weighted groups) b g =
      (weighted_over coverage these cells chosen barred groups g.0, g.1)
  good_over coverage these cells chosen barred floor (branch cell kids) b g = (
    unlit_over coverage these cells chosen cell g.0,
    g.1,
    g.2,
    are_good_over coverage these cells chosen barred floor g.1 kids b g.3,
  )
  good_over coverage these cells chosen barred floor (bar place by kid) b g = absurd b
  good_over coverage these cells chosen barred floor (omit others kid) b g = (
    omitted_over coverage these cells chosen others g.0,
    good_over coverage these (left_without others cells) chosen barred floor kid b
        (subst (λ (l : List ℕ). Good coverage l chosen barred floor kid) (sym (left_swap these others cells)) g.1),
  )
  good_over coverage these cells chosen barred floor (pick place with without) b g = (
    g.0,
    good_over coverage these cells (chosen ++ place ∷ []) barred floor with b.0 g.1,
    good_over coverage these cells chosen (barred ++ place ∷ []) floor without b.1 g.2,
  )

  pub are_good_over : (coverage : Coverage) (these cells chosen barred : List ℕ) (floor : ℕ) (places : List ℕ)
      (kids : Forest) → HaveNoBar kids → AreGood coverage (left_without these cells) chosen barred floor places kids
      → AreGood coverage cells chosen barred floor places kids
  are_good_over coverage these cells chosen barred floor [] none b g = tt
  are_good_over coverage these cells chosen barred floor [] (more tree trees) b g = absurd g
  are_good_over coverage these cells chosen barred floor (place ∷ places) none b g = absurd g
  are_good_over coverage these cells chosen barred floor (place ∷ places) (more tree trees) b g = (
    good_over coverage these cells (chosen ++ place ∷ []) barred floor tree b.0 g.0,
    are_good_over coverage these cells chosen (barred ++ place ∷ []) floor places trees b.1 g.1,
  )
