-- Weighted leaves by indices.
use Rattle.std.proofs.Common.{◌≡◌, ℕ, ◌+◌, ◌^◌, ◌<◌, ◌≤◌, List, [], ◌∷◌, slice_index, length, Contains, get_or}
use Rattle.std.proofs.Common.{sym, ap, subst, ◌∙◌, arith}
use Rattle.std.proofs.lemmas.List.{get_or-map, length-map}
use Rattle.proof_rules.specs.declared.groups.Share.{Share}
use Rattle.proof_rules.specs.declared.groups.Group.{Group}
use Rattle.proof_rules.specs.Groups.{cells_of, all_cells_of, most_weight, places_for_all, IsGroup, AreGroups}
use Rattle.proof_rules.specs.Tree.{weighted}
use Rattle.std.specs.List.Sorted.{IsStrictlyIncreasing}
use Rattle.proof_rules.proofs.ListLemmas.{all_members, at_member}
use Rattle.cave_model.specs.Plan.{AreDistinct}
use Rattle.set_cover.specs.Instance.{Instance, of_indices}
use Rattle.pack_bound.specs.Indices.{IsUnlitAt}
use Rattle.pack_bound.specs.Nodes.{NodeState, IsStateOf, Closes}
use Rattle.pack_bound.specs.Judged.{AreMarked, AreUnlitOnce}
use Rattle.pack_bound.proofs.GreedyLemmas.{few_below}
use Rattle.pack_bound.proofs.JudgeLemmas.{unlit_inside}
use Rattle.pack_bound.proofs.NodeLemmas.{index_fits}
use Rattle.set_cover.proofs.ListedLemmas.{row_listed}
use Rattle.weight_judge.specs.declared.claims.Claim.{Claim}
use Rattle.weight_judge.specs.Claims.{claims_of}
use Rattle.weight_judge.specs.Held.{AreAllKept, AreAllOpen}
use Rattle.weight_judge.proofs.ClaimLemmas.{claim_cells}
use Rattle.weight_judge.proofs.KeptLemmas.{kept_capacities, kept_apart, all_kept}
use Rattle.tree_judges.specs.Weighted.{claimed, AreShares, AreOpenLists, MayBeWeightedAt}

-- ---- the one form

-- ascending cells with weights, up to an index
pub record AreSharesTo (shares : List Share) (index : ℕ) : Type 0 where
  pub ascending : (k : ℕ) → k + 1 < index → (d : Share) → (get_or shares k d).cell < (get_or shares (k + 1) d).cell
  pub weights : (k : ℕ) → k < index → (d : Share) → 0 < (get_or shares k d).weight
  pub few : (k : ℕ) → k < index → (d : Share) → (get_or shares k d).weight ≤ most_weight

-- all of them
pub shares_all : (shares : List Share) → AreSharesTo shares (length shares) → AreShares shares
shares_all shares s = record {
  ascending = λ k h.
      (let none : Share = record { cell = 0; weight = 0 } in
      let l = length-map shares (λ (x : Share). x.cell) in
      let lt : k + 1 < length shares = omega (arith, l, h) in
      let a = get_or-map (λ (x : Share). x.cell) shares k none 0 (omega (arith, lt)) in
      let b = get_or-map (λ (x : Share). x.cell) shares (k + 1) none 0 lt in
      omega (arith, a, b, s.ascending k lt none));
  weights = λ k d h. s.weights k h d;
  few = λ k d h. s.few k h d;
}

-- groups in their one form, up to an index
pub record AreGroupsTo (groups : List Group) (index : ℕ) : Type 0 where
  pub each : (k : ℕ) → k < index → (d : Group) → IsGroup (get_or groups k d)
  pub ordered : (k : ℕ) → k + 1 < index → (d : Group) → get_or (cells_of (get_or groups k d).shares) 0 0
      < get_or (cells_of (get_or groups (k + 1) d).shares) 0 0

-- all of them
pub groups_all : (groups : List Group) → 0 < length groups → AreGroupsTo groups (length groups) → AreGroups groups
groups_all groups some g = record {
  filled = some;
  each = λ k d h. g.each k h d;
  ordered = λ k h.
      (let none : Group = record { capacity = 0; shares = [] } in
      let first = λ (x : Group). get_or (cells_of x.shares) 0 0 in
      let l = length-map groups first in
      let lt : k + 1 < length groups = omega (arith, l, h) in
      let a = get_or-map first groups k none 0 (omega (arith, lt)) in
      let b = get_or-map first groups (k + 1) none 0 lt in
      omega (arith, a, b, g.ordered k lt none));
}

-- ---- the judge

-- groups whose claims each place may hold may stand in a weighted leaf
pub may_stand : (region : Instance) (state : NodeState) (groups : List Group) (claims : List Claim) (marks : List ℕ)
    (lists : List (List ℕ)) → IsStateOf region state → AreGroups groups → claims ≡ claims_of groups
    → AreMarked state.unlit (claimed claims) marks → AreOpenLists region state claims lists → AreAllKept claims lists
    → MayBeWeightedAt region state groups
may_stand region state groups claims marks lists s g e m o k = record {
  weighted_there = λ barred listed.
      (let cells : claimed claims ≡ all_cells_of groups = ap claimed e ∙ claim_cells 0 groups in
      let opened = subst (λ (l : List Claim). AreAllOpen (of_indices region) barred l lists) e
      (o.open_there barred listed) in
      let kept = subst (λ (l : List Claim). AreAllKept l lists) e k in
      record {
        groups_are = g;
        distinct = subst AreDistinct cells m.distinct;
        unlit = all_members (IsUnlitAt region state.chosen) (all_cells_of groups)
            (λ c h. (s.unlit c).0 (m.each c (subst (λ (l : List ℕ). Contains l c) (sym cells) h)));
        each = kept_capacities (of_indices region) barred groups lists opened kept;
        apart = kept_apart (of_indices region) barred groups lists opened kept;
      });
}

-- ---- the other way round

-- groups that may stand in a weighted leaf have unlit cells, each once, and each place may hold their claims
pub stands : (region : Instance) (state : NodeState) (groups : List Group) (claims : List Claim)
    → IsStateOf region state → claims ≡ claims_of groups → MayBeWeightedAt region state groups
    → AreUnlitOnce state.unlit (claimed claims)
    × ((lists : List (List ℕ)) → AreOpenLists region state claims lists → AreAllKept claims lists)
stands region state groups claims s e m =
    let barred = row_listed state.barred in
    let w = m.weighted_there barred.0 barred.1 in
    let cells : claimed claims ≡ all_cells_of groups = ap claimed e ∙ claim_cells 0 groups in (
      subst (AreUnlitOnce state.unlit) (sym cells) record {
        distinct = w.distinct;
        each = λ c h. (s.unlit c).1 (at_member (IsUnlitAt region state.chosen) (all_cells_of groups) c w.unlit h);
      },
      λ lists o. subst (λ (l : List Claim). AreAllKept l lists) (sym e)
          (all_kept (of_indices region) barred.0 groups lists
          (subst (λ (l : List Claim). AreAllOpen (of_indices region) barred.0 l lists) e
          (o.open_there barred.0 barred.1))
          w.distinct w.each w.apart),
    )

-- what closes by a weighted leaf is groups in their one form that may stand there, and enough
pub weighted_closes : (region : Instance) (state : NodeState) (floor : ℕ) (groups : List Group)
    → Closes region state floor (weighted groups)
    → AreGroups groups × MayBeWeightedAt region state groups × (floor ≤ length state.chosen + places_for_all groups)
weighted_closes region state floor groups closed =
    let barred = row_listed state.barred in (
      (closed.good barred.0 barred.1).0.groups_are,
      record { weighted_there = λ list listed. (closed.good list listed).0 },
      (closed.good barred.0 barred.1).1,
    )

-- they have no more cells than the region
pub few_claims : (region : Instance) (state : NodeState) (groups : List Group) (claims : List Claim)
    → IsStateOf region state → claims ≡ claims_of groups → MayBeWeightedAt region state groups
    → length claims ≤ length region.cells
few_claims region state groups claims s e m =
    let parts = (stands region state groups claims s e m).0 in
    let few = few_below (claimed claims) (length region.cells) parts.distinct
    (λ c h. unlit_inside region state c s (parts.each c h)) in
    omega (arith, few, length-map claims (λ (x : Claim). x.cell))

-- ascending cells of 32 bits are no more than such numbers
pub few_cells : (xs : List ℕ) → IsStrictlyIncreasing xs → ((k : ℕ) → slice_index xs k < 2 ^ 32)
    → length xs ≤ 4294967296
few_cells [] up fit = omega arith
few_cells (x ∷ xs) up fit = (let last = index_fits (x ∷ xs) (length xs) up fit (omega arith) in omega arith)

-- the cells of shares in their one form ascend
pub not_rising : (shares : List Share) (i j : ℕ) (d : Share) → j ≡ i + 1 → j < length shares
    → (get_or shares j d).cell ≤ (get_or shares i d).cell → ¬ AreShares shares
not_rising shares i j d e h le s =
    let l = length-map shares (λ (x : Share). x.cell) in
    let up = s.ascending i (omega (arith, l, h)) in
    let a = get_or-map (λ (x : Share). x.cell) shares i d 0 (omega arith) in
    let b = get_or-map (λ (x : Share). x.cell) shares (i + 1) d 0 (omega arith) in
    let same : (get_or shares j d).cell ≡ (get_or shares (i + 1) d).cell =
    ap (λ (k : ℕ). (get_or shares k d).cell) e in
    absurd (omega (arith, a, b, up, le, same))

-- and so do the first cells of groups in theirs
pub not_ordered : (groups : List Group) (i j : ℕ) (one other : Group) → j ≡ i + 1 → j < length groups
    → one ≡ get_or groups i one → other ≡ get_or groups j other
    → get_or (cells_of other.shares) 0 0 ≤ get_or (cells_of one.shares) 0 0 → ¬ AreGroups groups
not_ordered groups i j one other e h is at le g =
    let first = λ (x : Group). get_or (cells_of x.shares) 0 0 in
    let l = length-map groups first in
    let up = g.ordered i (omega (arith, l, h)) in
    let a = get_or-map first groups i one 0 (omega arith) ∙ sym (ap first is) in
    let b = get_or-map first groups (i + 1) other 0 (omega arith)
    ∙ ap (λ (k : ℕ). first (get_or groups k other)) (sym e) ∙ sym (ap first at) in
    absurd (omega (arith, a, b, up, le))
