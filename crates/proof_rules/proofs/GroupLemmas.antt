-- How many places the groups of a weighted leaf need.
use Rattle.std.proofs.Common.{ℕ, zero, suc, ◌<◌, ◌≤◌, List, [], ◌∷◌, ◌++◌, length, Contains, All}
use Rattle.std.proofs.Common.{arith, subst, get_or, inl, inr, length-append, ap, ◌∙◌}
use Rattle.std.specs.List.{AllPairs}
use Rattle.std.proofs.lemmas.List.{length-map, get_or-map}
use Rattle.std.proofs.lemmas.List.Elements.{All-nil, All-cons, All-head, All-tail, All-weaker, All-contains_itself}
use Rattle.std.proofs.lemmas.List.Elements.{Contains-append_left, Contains-append_right, Contains-append_cases}
use Rattle.std.proofs.lemmas.List.Sums.{sum_by-cons}
use Rattle.cave_model.specs.Coverage.{Coverage, IsLitBy}
use Rattle.cave_model.specs.Plan.{AreDistinct}
use Rattle.proof_rules.specs.declared.groups.Share.{Share}
use Rattle.proof_rules.specs.declared.groups.Group.{Group}
use Rattle.proof_rules.specs.Groups.{cells_of, all_cells_of, places_for, places_for_all, IsGroup}
use Rattle.proof_rules.specs.Good.{KeepsCapacity, ShareNoPlace}
use Rattle.proof_rules.proofs.ListLemmas.{no_member, cons_cases, later, here, has_or_not}
use Rattle.proof_rules.proofs.ListLemmas.{distinct_nil, distinct_cons, distinct_tail, distinct_head, distinct_append}
use Rattle.proof_rules.proofs.WeightLemmas.{ceil_at_most, weighs_at_most}

-- the front of a distinct list is distinct
distinct_front : (xs ys : List ℕ) → AreDistinct (xs ++ ys) → AreDistinct xs
distinct_front [] ys d = distinct_nil
distinct_front (x ∷ xs) ys d = distinct_cons x xs
    (λ h. distinct_head x (xs ++ ys) d (Contains-append_left xs ys x h))
    (distinct_front xs ys (distinct_tail x (xs ++ ys) d))

-- and so is what follows it
distinct_back : (xs ys : List ℕ) → AreDistinct (xs ++ ys) → AreDistinct ys
distinct_back [] ys d = d
distinct_back (x ∷ xs) ys d = distinct_back xs ys (distinct_tail x (xs ++ ys) d)

-- a cell of one of the groups is one of all their cells
pub cell_of_group : (groups : List Group) (index cell : ℕ) (d : Group) → index < length groups
    → Contains (cells_of (get_or groups index d).shares) cell → Contains (all_cells_of groups) cell
cell_of_group [] index cell d lt h = absurd (omega arith)
cell_of_group (g ∷ gs) zero cell d lt h = Contains-append_left (cells_of g.shares) (all_cells_of gs) cell h
cell_of_group (g ∷ gs) (suc index) cell d lt h = Contains-append_right (cells_of g.shares) (all_cells_of gs) cell
    (cell_of_group gs index cell d (omega arith) h)

-- the cell of one of the shares is one of their cells
pub cell_of_share : (shares : List Share) (share : Share) → Contains shares share
    → Contains (cells_of shares) share.cell
cell_of_share shares share h = (
  h.0,
  omega (arith, h.1, length-map shares (λ (s : Share). s.cell)),
  get_or-map (λ (s : Share). s.cell) shares h.0 share share.cell h.1 ∙ ap (λ (s : Share). s.cell) h.2,
)

-- places without repetition that light all of the shares, each at least one
pub record AreChosenFor (coverage : Coverage) (places : List ℕ) (shares : List Share) (picked : List ℕ) : Type 0 where
  pub distinct : AreDistinct picked
  pub inside : (p : ℕ) → Contains picked p → Contains places p
  pub lighting : (p : ℕ) → Contains picked p → (cell : ℕ) × Contains (cells_of shares) cell × coverage.Covers p cell
  pub lit : All (λ share. IsLitBy coverage picked share.cell) shares

-- enough places for the groups, without repetition, each of which lights a cell of one of them
pub record AreEnough (coverage : Coverage) (places : List ℕ) (groups : List Group) (picked : List ℕ) : Type 0 where
  pub many : places_for_all groups ≤ length picked
  pub distinct : AreDistinct picked
  pub inside : (p : ℕ) → Contains picked p → Contains places p
  pub lighting : (p : ℕ) → Contains picked p → (index : ℕ) × (cell : ℕ) × (index < length groups)
      × ((d : Group) → Contains (cells_of (get_or groups index d).shares) cell) × coverage.Covers p cell

module _ (coverage : Coverage) (barred places : List ℕ)
    (legal : (p : ℕ) → Contains places p → coverage.Place p)
    (free : (p : ℕ) → Contains places p → ¬ Contains barred p) where
  -- lit by one of these
  abbrev LitBy : List ℕ → Share → Type 0
  LitBy picked share = IsLitBy coverage picked share.cell

  -- out of places that light all of the shares, such without repetition
  choose_for : (shares : List Share) → All (LitBy places) shares
      → (picked : List ℕ) × AreChosenFor coverage places shares picked
  choose_for [] lit = (
    [],
    record {
      distinct = distinct_nil;
      inside = λ p h. no_member p h;
      lighting = λ p h. no_member p h;
      lit = All-nil (LitBy []);
    },
  )
  choose_for (x ∷ xs) lit =
      let t = choose_for xs (All-tail (LitBy places) x xs lit) in
      let by : LitBy places x = All-head (LitBy places) x xs lit in
      elim (has_or_not t.0 by.0) [
        | inl old ↦ (
          t.0,
          record {
            distinct = t.1.distinct;
            inside = t.1.inside;
            lighting = λ p h. (let l = t.1.lighting p h in (l.0, later x.cell (cells_of xs) l.0 l.1, l.2));
            lit = All-cons (LitBy t.0) x xs (by.0, old, by.2) t.1.lit;
          },
        )
        | inr new ↦ (
          by.0 ∷ t.0,
          record {
            distinct = distinct_cons by.0 t.0 new t.1.distinct;
            inside = λ p h. elim (cons_cases by.0 t.0 p h) [
              | inl e ↦ subst (Contains places) e by.1
              | inr h ↦ t.1.inside p h
            ];
            lighting = λ p h. elim (cons_cases by.0 t.0 p h) [
              | inl e ↦ (x.cell, here x.cell (cells_of xs), subst (λ (q : ℕ). coverage.Covers q x.cell) e by.2)
              | inr h ↦ (let l = t.1.lighting p h in (l.0, later x.cell (cells_of xs) l.0 l.1, l.2))
            ];
            lit = All-cons (LitBy (by.0 ∷ t.0)) x xs (by.0, here by.0 t.0, by.2)
                (All-weaker (LitBy t.0) (LitBy (by.0 ∷ t.0)) (λ s l. (l.0, later by.0 t.0 l.0 l.1, l.2)) xs t.1.lit);
          },
        )
      ]

  -- a group needs no more places than light all of it
  group_needs : (group : Group) (picked : List ℕ) → 0 < group.capacity → KeepsCapacity coverage barred group
      → AreDistinct (cells_of group.shares) → AreChosenFor coverage places group.shares picked
      → places_for group ≤ length picked
  group_needs group picked some keeps once t = ceil_at_most _ group.capacity (length picked) some
      (weighs_at_most coverage group.shares group.capacity picked
      (λ p h. keeps p (legal p (t.inside p h)) (free p (t.inside p h)))
      group.shares (All-contains_itself group.shares) once t.lit)

  -- enough places for groups that share none
  pub enough_for : (groups : List Group) → AreDistinct (all_cells_of groups) → All IsGroup groups
      → All (KeepsCapacity coverage barred) groups
      → AllPairs (ShareNoPlace coverage barred) groups
      → ((cell : ℕ) → Contains (all_cells_of groups) cell → IsLitBy coverage places cell)
      → (picked : List ℕ) × AreEnough coverage places groups picked
  enough_for [] once form keep apart lit = (
    [],
    record {
      many = omega arith;
      distinct = distinct_nil;
      inside = λ p h. no_member p h;
      lighting = λ p h. no_member p h;
    },
  )
  enough_for (g ∷ gs) once form keep apart lit =
      let t = enough_for gs (distinct_back (cells_of g.shares) (all_cells_of gs) once)
      (All-tail IsGroup g gs form) (All-tail (KeepsCapacity coverage barred) g gs keep)
      (λ i j d lt h. apart (suc i) (suc j) d (omega arith) (omega arith))
      (λ c h. lit c (Contains-append_right (cells_of g.shares) (all_cells_of gs) c h)) in
      let s = choose_for g.shares (lit_shares g.shares
      (λ c h. lit c (Contains-append_left (cells_of g.shares) (all_cells_of gs) c h))) in
      let needs : places_for g ≤ length s.0 = group_needs g s.0
      (All-head IsGroup g gs form).some (All-head (KeepsCapacity coverage barred) g gs keep)
      (distinct_front (cells_of g.shares) (all_cells_of gs) once) s.1 in (
        s.0 ++ t.0,
        record {
          many = omega (arith, needs, t.1.many, sum_by-cons places_for g gs, length-append s.0 t.0);
          distinct = distinct_append s.0 t.0 s.1.distinct t.1.distinct
              (λ p h k. (let a = s.1.lighting p h in let b = t.1.lighting p k in
              apart 0 (suc b.0) g (omega arith) (omega (arith, b.2)) p a.0 b.1
              (legal p (s.1.inside p h)) (free p (s.1.inside p h)) a.1 (b.3 g) a.2 b.4));
          inside = λ p h. elim (Contains-append_cases s.0 t.0 p h) [
            | inl h ↦ s.1.inside p h
            | inr h ↦ t.1.inside p h
          ];
          lighting = λ p h. elim (Contains-append_cases s.0 t.0 p h) [
            | inl h ↦ (let a = s.1.lighting p h in (0, a.0, omega arith, λ d. a.1, a.2))
            | inr h ↦ (let b = t.1.lighting p h in (suc b.0, b.1, omega (arith, b.2), b.3, b.4))
          ];
        },
      )
    where
      -- where each cell is lit each share is
      lit_shares : (shares : List Share) → ((cell : ℕ) → Contains (cells_of shares) cell → IsLitBy coverage places cell)
          → All (LitBy places) shares
      lit_shares [] f = All-nil (LitBy places)
      lit_shares (x ∷ xs) f = All-cons (LitBy places) x xs (f x.cell (here x.cell (cells_of xs)))
          (lit_shares xs (λ c h. f c (later x.cell (cells_of xs) c h)))
