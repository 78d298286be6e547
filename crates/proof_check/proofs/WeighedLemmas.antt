-- What the tests of weighted leaves by lists say of a cave.
use Rattle.std.proofs.Common.{ℕ, inl, inr, List, [], ◌∷◌, Contains, refl, sym, subst, arith}
use Rattle.std.proofs.lemmas.List.Elements.{Contains-append_left, Contains-append_right}
use Rattle.proof_rules.proofs.ListLemmas.{all_members, at_member}
use Rattle.cave_model.specs.Cave.{Cave}
use Rattle.cave_model.specs.Spawn.{IsDark}
use Rattle.cave_model.specs.Torches.{IsPlace}
use Rattle.cave_model.specs.Plan.{AreDistinct}
use Rattle.cave_model.specs.Coverage.{of_cave}
use Rattle.proof_rules.specs.declared.groups.Group.{Group}
use Rattle.proof_rules.specs.Groups.{all_cells_of, AreGroups}
use Rattle.proof_rules.specs.Good.{IsUnlit, AreWeighted}
use Rattle.lit_lists.specs.Lists.{LitLists, AreListsOf}
use Rattle.weight_judge.specs.declared.claims.Claim.{Claim}
use Rattle.weight_judge.specs.Claims.{claims_of}
use Rattle.weight_judge.specs.Held.{AreAllOpen}
use Rattle.weight_judge.proofs.ClaimLemmas.{claim_cells, to_map}
use Rattle.weight_judge.proofs.KeptLemmas.{kept_capacities, kept_apart, all_kept}
use Rattle.node_judges.specs.Weighed.{cells_claimed, AreAllLeft, MayBeWeighted, MayNotBeWeighted}
use Rattle.proof_check.proofs.MeaningLemmas.{free_unlit, unlit_free, left_open}

module _ (cave : Cave) (lists : LitLists) (known : AreListsOf cave lists) (cells : List ℕ)
    (dark : (cell : ℕ) → Contains cells cell → IsDark cave cell) (chosen : List ℕ)
    (legal : (p : ℕ) → Contains chosen p → IsPlace cave p) (barred : List ℕ) where
  -- the places left by the lists for claims of cells of the region are the open ones
  all_open : (claims : List Claim) (places : List (List ℕ)) → AreAllLeft lists barred claims places
      → ((claim : Claim) → Contains claims claim → Contains cells claim.cell)
      → AreAllOpen (of_cave cave) barred claims places
  all_open [] [] a f = tt
  all_open [] (l ∷ ls) a f = absurd a
  all_open (c ∷ cs) [] a f = absurd a
  all_open (c ∷ cs) (l ∷ ls) a f = (
    left_open cave lists known cells dark chosen legal barred l c.cell
        (f c (Contains-append_left (c ∷ []) cs c (0, omega arith, refl))) a.0,
    all_open cs ls a.1 (λ d h. f d (Contains-append_right (c ∷ []) cs d h)),
  )

  module _ (groups : List Group) where
    -- the cells of a group's claims are those of the groups
    claimed : (cell : ℕ) → Contains (cells_claimed (claims_of groups)) cell → Contains (all_cells_of groups) cell
    claimed cell h = subst (λ (l : List ℕ). Contains l cell) (claim_cells 0 groups) h

    unclaimed : (cell : ℕ) → Contains (all_cells_of groups) cell → Contains (cells_claimed (claims_of groups)) cell
    unclaimed cell h = subst (λ (l : List ℕ). Contains l cell) (sym (claim_cells 0 groups)) h

    claims_inside : ((cell : ℕ) → Contains (cells_claimed (claims_of groups)) cell → Contains cells cell)
        → (claim : Claim) → Contains (claims_of groups) claim → Contains cells claim.cell
    claims_inside f claim h = f claim.cell (to_map (λ (c : Claim). c.cell) (claims_of groups) claim h)

    -- groups that may stand in a weighted leaf by the lists may
    pub is_weighted : AreGroups groups → MayBeWeighted lists cells chosen barred groups
        → AreWeighted (of_cave cave) cells chosen barred groups
    is_weighted are m =
        let opened = all_open (claims_of groups) m.places m.left
        (claims_inside (λ cell h. (m.free.free cell h).of_it)) in
        record {
          groups_are = are;
          distinct = subst AreDistinct (claim_cells 0 groups) m.free.distinct;
          unlit = all_members (IsUnlit (of_cave cave) cells chosen) (all_cells_of groups)
              (λ cell h. free_unlit cave lists known cells dark chosen legal cell
              (m.free.free cell (unclaimed cell h)));
          each = kept_capacities (of_cave cave) barred groups m.places opened m.kept;
          apart = kept_apart (of_cave cave) barred groups m.places opened m.kept;
        }

    -- and others may not
    pub not_weighted : MayNotBeWeighted lists cells chosen barred groups
        → ¬ AreWeighted (of_cave cave) cells chosen barred groups
    not_weighted (inl never) w = never (λ i d lt. (w.groups_are.each i d lt).some)
    not_weighted (inr (inl never)) w = never (record {
      distinct = subst AreDistinct (sym (claim_cells 0 groups)) w.distinct;
      free = λ cell h. unlit_free cave lists known cells dark chosen legal cell
          (at_member (IsUnlit (of_cave cave) cells chosen) (all_cells_of groups) cell w.unlit (claimed cell h));
    })
    not_weighted (inr (inr (places, among, never))) w =
        let opened = all_open (claims_of groups) places among
        (claims_inside (λ cell h. (at_member (IsUnlit (of_cave cave) cells chosen) (all_cells_of groups) cell w.unlit
        (claimed cell h)).of_it)) in
        never (all_kept (of_cave cave) barred groups places opened w.distinct w.each w.apart)
