-- Trees that speak of none of the cells that are left out.
use Rattle.std.proofs.Common.{◌≡◌, ℕ, ◌+◌, ◌<◌, List, [], ◌∷◌, ◌++◌, length, Contains, slice_index}
use Rattle.std.proofs.Common.{zero, suc, arith, refl, sym, ap, subst, ◌∙◌, inl, inr, get_or, take}
use Rattle.std.proofs.lemmas.List.{take_more}
use Rattle.std.proofs.lemmas.List.Elements.{All-head, All-tail, All-from_get_or, Contains-append_cases}
use Rattle.set_cover.specs.Bits.{Has, IsRowOf, IsWith, IsWithout}
use Rattle.set_cover.specs.Instance.{Instance, of_indices}
use Rattle.set_cover.proofs.BitLemmas.{has_or_not, row_push}
use Rattle.cave_model.specs.Coverage.{Coverage}
use Rattle.proof_rules.specs.declared.groups.Share.{Share}
use Rattle.proof_rules.specs.declared.groups.Group.{Group}
use Rattle.proof_rules.specs.Groups.{cells_of, all_cells_of}
use Rattle.proof_rules.specs.Tree.{Tree, Forest, leaf, weighted, branch, bar, omit, pick, none, more}
use Rattle.proof_rules.specs.Omitted.{is_among, left_without, MayBeOmitted}
use Rattle.proof_rules.specs.Good.{IsUnlit, AreScattered, AreWeighted, IsDominated, Good, AreGood}
use Rattle.proof_rules.proofs.ListLemmas.{no_member, cons_cases, all_members, at_member}
use Rattle.proof_rules.proofs.OmitLemmas.{bool_cases, left_from, left_is_other, other_is_left}
use Rattle.proof_tree.specs.declared.proof.Proof.{Proof}
use Rattle.proof_tree.specs.Shape.{tree_of, forest_of}
use Rattle.pack_bound.specs.Indices.{cell_indices}
use Rattle.pack_bound.specs.Nodes.{NodeState, IsStateOf, Closes}
use Rattle.pack_bound.proofs.NodeLemmas.{row_of_state, lit_outside, dark_of}
use Rattle.pack_bound.proofs.NumberLemmas.{number_in, below_number}
use Rattle.tree_judges.specs.Omission.{CellsAvoid, SharesAvoid, GroupsAvoid, Avoids, AllAvoid}
use Rattle.tree_judges.specs.Omission.{MayBeBarredOver, ClosesWithout}

-- ---- what is left

-- whichever of two lists of cells is left out first, the same is left
pub left_swap : (these others cells : List ℕ) → left_without these (left_without others cells)
    ≡ left_without others (left_without these cells)
left_swap these others [] = refl
left_swap these others (c ∷ cells) =
    let rest = left_swap these others cells in
    elim (bool_cases (is_among these c)) [
      | inl e ↦ elim (bool_cases (is_among others c)) [ inl f ↦ rw (e, f) rest | inr f ↦ rw (e, f, e) rest ]
      | inr e ↦ elim (bool_cases (is_among others c)) [
        | inl f ↦ rw (e, f) rest
        | inr f ↦ rw (e, f, e) (ap (λ (l : List ℕ). c ∷ l) rest)
      ]
    ]

-- ---- cells that aren't in a row

-- the cell of none of the shares is in the row
shares_apart : (omitted : List ℕ) (shares : List Share) (cell : ℕ) → SharesAvoid omitted shares
    → Contains (cells_of shares) cell → ¬ Has omitted cell
shares_apart omitted [] cell all h = no_member cell h
shares_apart omitted (x ∷ xs) cell all h = elim (cons_cases x.cell (cells_of xs) cell h) [
  | inl e ↦ subst (λ (n : ℕ). ¬ Has omitted n) e (All-head (λ (s : Share). ¬ Has omitted s.cell) x xs all)
  | inr h ↦ shares_apart omitted xs cell (All-tail (λ (s : Share). ¬ Has omitted s.cell) x xs all) h
]

-- and no cell of the groups is
groups_apart : (omitted : List ℕ) (groups : List Group) (cell : ℕ) → GroupsAvoid omitted groups
    → Contains (all_cells_of groups) cell → ¬ Has omitted cell
groups_apart omitted [] cell all h = no_member cell h
groups_apart omitted (g ∷ gs) cell all h = elim (Contains-append_cases (cells_of g.shares) (all_cells_of gs) cell h) [
  | inl h ↦ shares_apart omitted g.shares cell (All-head (λ (x : Group). SharesAvoid omitted x.shares) g gs all) h
  | inr h ↦ groups_apart omitted gs cell (All-tail (λ (x : Group). SharesAvoid omitted x.shares) g gs all) h
]

-- ---- a tree that is good over all cells

module _ (coverage : Coverage) (these omitted : List ℕ) (listed : IsRowOf these omitted) where
  -- a cell that isn't in the row is none of these
  other : (cell : ℕ) → (¬ Has omitted cell) → ¬ Contains these cell
  other cell not h = not ((listed.exact cell).1 h)

  -- an unlit cell that isn't left out is an unlit cell of what is left
  unlit_left : (cells chosen : List ℕ) (cell : ℕ) → (¬ Has omitted cell) → IsUnlit coverage cells chosen cell
      → IsUnlit coverage (left_without these cells) chosen cell
  unlit_left cells chosen cell not u =
      record { of_it = other_is_left these cells cell u.of_it (other cell not); unlit = u.unlit }

  scattered_left : (cells chosen barred leaves : List ℕ) → CellsAvoid omitted leaves
      → AreScattered coverage cells chosen barred leaves
      → AreScattered coverage (left_without these cells) chosen barred leaves
  scattered_left cells chosen barred leaves apart s = record {
    distinct = s.distinct;
    unlit = all_members (IsUnlit coverage (left_without these cells) chosen) leaves
        (λ c h. unlit_left cells chosen c (at_member (λ x. ¬ Has omitted x) leaves c apart h)
        (at_member (IsUnlit coverage cells chosen) leaves c s.unlit h));
    apart = s.apart;
  }

  weighted_left : (cells chosen barred : List ℕ) (groups : List Group) → GroupsAvoid omitted groups
      → AreWeighted coverage cells chosen barred groups
      → AreWeighted coverage (left_without these cells) chosen barred groups
  weighted_left cells chosen barred groups apart w = record {
    groups_are = w.groups_are;
    distinct = w.distinct;
    unlit = all_members (IsUnlit coverage (left_without these cells) chosen) (all_cells_of groups)
        (λ c h. unlit_left cells chosen c (groups_apart omitted groups c apart h)
        (at_member (IsUnlit coverage cells chosen) (all_cells_of groups) c w.unlit h));
    each = w.each;
    apart = w.apart;
  }

  dominated_left : (cells chosen barred : List ℕ) (place by : ℕ) → IsDominated coverage cells chosen barred place by
      → IsDominated coverage (left_without these cells) chosen barred place by
  dominated_left cells chosen barred place by d = record {
    legal = d.legal;
    by_legal = d.by_legal;
    other = d.other;
    free = d.free;
    by_free = d.by_free;
    unchosen = d.unchosen;
    does_as_well = λ c h lit. d.does_as_well c (left_from these cells c h) lit;
  }

  -- more may be left out of what is left, where it may be left out of all
  omitted_left : (cells others : List ℕ) → CellsAvoid omitted others → MayBeOmitted cells others
      → MayBeOmitted (left_without these cells) others
  omitted_left cells others apart m = record {
    filled = m.filled;
    ascending = m.ascending;
    of_them = all_members (Contains (left_without these cells)) others
        (λ c h. other_is_left these cells c (at_member (Contains cells) others c m.of_them h)
        (other c (at_member (λ x. ¬ Has omitted x) others c apart h)));
  }

mutual
  -- a good tree is good without the cells of which it doesn't speak
  pub good_without : (coverage : Coverage) (these omitted : List ℕ) → IsRowOf these omitted
      → (cells chosen barred : List ℕ) (floor : ℕ) (tree : Tree) → Avoids omitted tree
      → Good coverage cells chosen barred floor tree → Good coverage (left_without these cells) chosen barred floor tree
  good_without coverage these omitted listed cells chosen barred floor (leaf leaves) a g =
      (scattered_left coverage these omitted listed cells chosen barred leaves a g.0, g.1)
  good_without coverage these omitted listed cells chosen barred floor (weighted groups) a g =
      (weighted_left coverage these omitted listed cells chosen barred groups a g.0, g.1)
  good_without coverage these omitted listed cells chosen barred floor (branch cell kids) a g = (
    unlit_left coverage these omitted listed cells chosen cell a.0 g.0,
    g.1,
    g.2,
    are_good_without coverage these omitted listed cells chosen barred floor g.1 kids a.1 g.3,
  )
  good_without coverage these omitted listed cells chosen barred floor (bar place by kid) a g = (
    dominated_left coverage these omitted listed cells chosen barred place by g.0,
    good_without coverage these omitted listed cells chosen (barred ++ place ∷ []) floor kid a g.1,
  )
  good_without coverage these omitted listed cells chosen barred floor (omit others kid) a g = (
    omitted_left coverage these omitted listed cells others a.0 g.0,
    subst (λ (l : List ℕ). Good coverage l chosen barred floor kid) (left_swap these others cells)
        (good_without coverage these omitted listed (left_without others cells) chosen barred floor kid a.1 g.1),
  )
  good_without coverage these omitted listed cells chosen barred floor (pick place with without) a g = (
    g.0,
    good_without coverage these omitted listed cells (chosen ++ place ∷ []) barred floor with a.0 g.1,
    good_without coverage these omitted listed cells chosen (barred ++ place ∷ []) floor without a.1 g.2,
  )

  -- and so are good kids
  pub are_good_without : (coverage : Coverage) (these omitted : List ℕ) → IsRowOf these omitted
      → (cells chosen barred : List ℕ) (floor : ℕ) (places : List ℕ) (kids : Forest) → AllAvoid omitted kids
      → AreGood coverage cells chosen barred floor places kids
      → AreGood coverage (left_without these cells) chosen barred floor places kids
  are_good_without coverage these omitted listed cells chosen barred floor [] none a g = tt
  are_good_without coverage these omitted listed cells chosen barred floor [] (more tree trees) a g = absurd g
  are_good_without coverage these omitted listed cells chosen barred floor (place ∷ places) none a g = absurd g
  are_good_without coverage these omitted listed cells chosen barred floor (place ∷ places) (more tree trees) a g = (
    good_without coverage these omitted listed cells (chosen ++ place ∷ []) barred floor tree a.0 g.0,
    are_good_without coverage these omitted listed cells chosen (barred ++ place ∷ []) floor places trees a.1 g.1,
  )

-- ---- trees, one after another

-- one more tree avoids the cells
avoid_push : (omitted : List ℕ) (proofs : List Proof) (proof : Proof) → AllAvoid omitted (forest_of proofs)
    → Avoids omitted (tree_of proof) → AllAvoid omitted (forest_of (proofs ++ proof ∷ []))
avoid_push omitted [] proof all one = (one, tt)
avoid_push omitted (p ∷ ps) proof all one = (all.0, avoid_push omitted ps proof all.1 one)

-- and so each of them does
pub avoid_at : (omitted : List ℕ) (proofs : List Proof) (i : ℕ) (d : Proof) → i < length proofs
    → AllAvoid omitted (forest_of proofs) → Avoids omitted (tree_of (get_or proofs i d))
avoid_at omitted [] i d h all = absurd (omega arith)
avoid_at omitted (p ∷ ps) zero d h all = all.0
avoid_at omitted (p ∷ ps) (suc i) d h all = avoid_at omitted ps i d (omega arith) all.1

-- the tree at the next index does
pub avoid_next : (omitted : List ℕ) (proofs : List Proof) (i : ℕ) (proof : Proof) → i < length proofs
    → proof ≡ get_or proofs i proof → AllAvoid omitted (forest_of (take i proofs)) → Avoids omitted (tree_of proof)
    → AllAvoid omitted (forest_of (take (i + 1) proofs))
avoid_next omitted proofs i proof h is all one = subst (λ (l : List Proof). AllAvoid omitted (forest_of l))
    (sym (take_more proofs i proof h ∙ ap (λ (p : Proof). take i proofs ++ p ∷ []) (sym is)))
    (avoid_push omitted (take i proofs) proof all one)

-- ---- the judges

-- some of a region's cells, ascending, up to an index
pub record AreOmittedTo (region : Instance) (cells : List ℕ) (index : ℕ) : Type 0 where
  pub ascending : (k : ℕ) → k + 1 < index → slice_index cells k < slice_index cells (k + 1)
  pub below : (k : ℕ) → k < index → slice_index cells k < length region.cells

-- all of them
pub omitted_all : (region : Instance) (cells : List ℕ) → 0 < length cells → AreOmittedTo region cells (length cells)
    → MayBeOmitted (cell_indices region) cells
omitted_all region cells some o = record {
  filled = some;
  ascending = λ k h. o.ascending k h;
  of_them = All-from_get_or (Contains (cell_indices region)) cells 0
      (λ k h. number_in (length region.cells) (slice_index cells k) (o.below k h));
}

-- each is below the number of the region's cells
pub omitted_below : (region : Instance) (cells : List ℕ) (cell : ℕ) → MayBeOmitted (cell_indices region) cells
    → Contains cells cell → cell < length region.cells
omitted_below region cells cell m h =
    below_number (length region.cells) cell (at_member (Contains (cell_indices region)) cells cell m.of_them h)

-- a place that may be left out over a row is dominated, where no cell but those of the row is left
pub barred_over : (region : Instance) (state : NodeState) (these omitted left barred : List ℕ) (place by : ℕ)
    → IsStateOf region state → IsRowOf these omitted → IsWithout state.unlit omitted left
    → IsRowOf barred state.barred → MayBeBarredOver region state left place by
    → IsDominated (of_indices region) (left_without these (cell_indices region)) state.chosen barred place by
barred_over region state these omitted left barred place by s row w listed may = record {
  legal = may.gives.inside;
  by_legal = may.gives.by_inside;
  other = may.gives.other;
  free = λ c. may.gives.free ((listed.exact place).1 c);
  by_free = λ c. may.gives.by_free ((listed.exact by).1 c);
  unchosen = may.gives.unchosen;
  does_as_well = λ cell of_it lights. elim (has_or_not state.unlit cell) [
    | inl unlit ↦ inr (may.within cell lights ((w.exact cell).1
        (unlit, λ o. left_is_other these (cell_indices region) cell of_it ((row.exact cell).0 o))))
    | inr not ↦ inl (lit_outside region state.chosen state.unlit cell (row_of_state region state s)
        (left_from these (cell_indices region) cell of_it) not)
  ];
}

-- and one that is dominated may be left out over it
pub over_barred : (region : Instance) (state : NodeState) (these omitted left barred : List ℕ) (place by : ℕ)
    → IsStateOf region state → IsRowOf these omitted → IsWithout state.unlit omitted left
    → IsRowOf barred state.barred
    → IsDominated (of_indices region) (left_without these (cell_indices region)) state.chosen barred place by
    → MayBeBarredOver region state left place by
over_barred region state these omitted left barred place by s row w listed d = record {
  gives = record {
    inside = d.legal;
    by_inside = d.by_legal;
    other = d.other;
    free = λ h. d.free ((listed.exact place).0 h);
    by_free = λ h. d.by_free ((listed.exact by).0 h);
    unchosen = d.unchosen;
  };
  within = λ cell lights there.
      (let was = (w.exact cell).0 there in let u = (s.unlit cell).0 was.0 in
      elim (d.does_as_well cell (other_is_left these (cell_indices region) cell u.of_it
      (λ c. was.1 ((row.exact cell).1 c))) lights) [
        | inl lit ↦ absurd (dark_of region state.chosen cell lit.0 u lit.1 lit.2)
        | inr as_well ↦ as_well
      ]);
}

-- a bar above a tree that closes what is left without the cells
pub bar_without : (region : Instance) (old new : NodeState) (omitted left : List ℕ) (place by floor : ℕ) (tree : Tree)
    → IsStateOf region old → IsWithout old.unlit omitted left → MayBeBarredOver region old left place by
    → new.chosen ≡ old.chosen → IsWith old.barred place new.barred → ClosesWithout region new omitted floor tree
    → ClosesWithout region old omitted floor (bar place by tree)
bar_without region old new omitted left place by floor tree s w may chosen with_it closed = record {
  good = λ barred these listed row. (
    barred_over region old these omitted left barred place by s row w listed may,
    subst (λ (l : List ℕ). Good (of_indices region) (left_without these (cell_indices region)) l (barred ++ place ∷ [])
        floor tree) chosen
        (closed.good (barred ++ place ∷ []) these (row_push barred old.barred new.barred place listed with_it) row),
  );
}

-- a tree that closes all that is left, and doesn't speak of the cells
pub closes_without : (region : Instance) (state : NodeState) (omitted : List ℕ) (floor : ℕ) (tree : Tree)
    → Avoids omitted tree → Closes region state floor tree → ClosesWithout region state omitted floor tree
closes_without region state omitted floor tree avoids closed = record {
  good = λ barred these listed row. good_without (of_indices region) these omitted row (cell_indices region)
      state.chosen barred floor tree avoids (closed.good barred listed);
}
