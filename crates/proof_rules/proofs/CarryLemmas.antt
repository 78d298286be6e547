-- A good tree over some places is good over all that light the same cells.
use Rattle.std.proofs.Common.{ℕ, ◌<◌, List, [], ◌∷◌, ◌++◌, length, Contains, get_or, inl, inr, subst, arith}
use Rattle.std.proofs.lemmas.List.Elements.{Contains-append_cases}
use Rattle.cave_model.specs.Coverage.{Coverage, Agrees}
use Rattle.proof_rules.specs.Tree.{Tree, Forest, leaf, weighted, branch, bar, omit, pick, none, more}
use Rattle.proof_rules.specs.Omitted.{left_without}
use Rattle.proof_rules.specs.declared.groups.Share.{Share}
use Rattle.proof_rules.specs.declared.groups.Group.{Group}
use Rattle.proof_rules.specs.Groups.{cells_of, all_cells_of}
use Rattle.proof_rules.specs.Good.{IsUnlit, AreScattered, KeepsCapacity, AreWeighted}
use Rattle.proof_rules.specs.Good.{AreOpen, IsDominated, Good, AreGood}
use Rattle.proof_rules.proofs.ListLemmas.{no_member, cons_cases, all_members, at_member, here, later}
use Rattle.proof_rules.proofs.GroupLemmas.{cell_of_group, cell_of_share}
use Rattle.proof_rules.proofs.OmitLemmas.{left_from}

module _ (a b : Coverage) (cells : List ℕ) (same : Agrees a b cells) where
  unlit_too : (chosen : List ℕ) → ((p : ℕ) → Contains chosen p → a.Place p) → (cell : ℕ) → IsUnlit a cells chosen cell
      → IsUnlit b cells chosen cell
  unlit_too chosen of cell u = record {
    of_it = u.of_it;
    unlit = all_members (λ p. ¬ b.Covers p cell) chosen
        (λ p h lit. at_member (λ q. ¬ a.Covers q cell) chosen p u.unlit h
        (same.back p cell u.of_it (same.wider p (of p h)) lit).1);
  }

  open_too : (barred : List ℕ) (cell : ℕ) (places : List ℕ) → Contains cells cell → AreOpen a barred cell places
      → AreOpen b barred cell places
  open_too barred cell places c o = record {
    ascending = o.ascending;
    exact = λ p. (
      λ h. (let i = (o.exact p).0 h in
          record { legal = same.wider p i.legal; lights = same.there p cell c i.legal i.lights; free = i.free }),
      λ i. (let g = same.back p cell c i.legal i.lights in
          (o.exact p).1 (record { legal = g.0; lights = g.1; free = i.free })),
    );
  }

  scattered_too : (chosen barred these : List ℕ) → ((p : ℕ) → Contains chosen p → a.Place p)
      → AreScattered a cells chosen barred these → AreScattered b cells chosen barred these
  scattered_too chosen barred these of s = record {
    distinct = s.distinct;
    unlit = all_members (IsUnlit b cells chosen) these
        (λ c h. unlit_too chosen of c (at_member (IsUnlit a cells chosen) these c s.unlit h));
    apart = λ p x y legal free hx hy lx ly.
        (let gx = same.back p x (at_member (IsUnlit a cells chosen) these x s.unlit hx).of_it legal lx in
        let gy = same.back p y (at_member (IsUnlit a cells chosen) these y s.unlit hy).of_it legal ly in
        s.apart p x y gx.0 free hx hy gx.1 gy.1);
  }

  -- a group keeps its capacity, where its cells are of the region
  capacity_too : (barred : List ℕ) (group : Group) → ((c : ℕ) → Contains (cells_of group.shares) c → Contains cells c)
      → KeepsCapacity a barred group → KeepsCapacity b barred group
  capacity_too barred group inside k p legal free [] are = omega arith
  capacity_too barred group inside k p legal free (x ∷ xs) are =
      let back = λ (i : ℕ) (d : Share) (h : i < length (x ∷ xs)). same.back p (get_or (x ∷ xs) i d).cell
      (inside (get_or (x ∷ xs) i d).cell (cell_of_share group.shares (get_or (x ∷ xs) i d) (are.of_them i d h)))
      legal (are.lit i d h) in
      k p (back 0 x (omega arith)).0 free (x ∷ xs)
      (record { of_them = are.of_them; once = are.once; lit = λ i d h. (back i d h).1 })

  weighted_too : (chosen barred : List ℕ) (groups : List Group) → ((p : ℕ) → Contains chosen p → a.Place p)
      → AreWeighted a cells chosen barred groups → AreWeighted b cells chosen barred groups
  weighted_too chosen barred groups of w =
      let unlit = λ (c : ℕ) (h : Contains (all_cells_of groups) c).
      at_member (IsUnlit a cells chosen) (all_cells_of groups) c w.unlit h in
      let inside = λ (i : ℕ) (d : Group) (h : i < length groups) (c : ℕ)
      (m : Contains (cells_of (get_or groups i d).shares) c). (unlit c (cell_of_group groups i c d h m)).of_it in
      record {
        groups_are = w.groups_are;
        distinct = w.distinct;
        unlit = all_members (IsUnlit b cells chosen) (all_cells_of groups) (λ c h. unlit_too chosen of c (unlit c h));
        each = λ i d h. capacity_too barred (get_or groups i d) (inside i d h) (w.each i d h);
        apart = λ i j d lt h p x y legal free hx hy lx ly.
            (let gx = same.back p x (inside i d (omega arith) x hx) legal lx in
            let gy = same.back p y (inside j d h y hy) legal ly in
            w.apart i j d lt h p x y gx.0 free hx hy gx.1 gy.1);
      }

  dominated_too : (chosen barred : List ℕ) (place by : ℕ) → ((p : ℕ) → Contains chosen p → a.Place p)
      → IsDominated a cells chosen barred place by → IsDominated b cells chosen barred place by
  dominated_too chosen barred place by of d = record {
    legal = same.wider place d.legal;
    by_legal = same.wider by d.by_legal;
    other = d.other;
    free = d.free;
    by_free = d.by_free;
    unchosen = d.unchosen;
    does_as_well = λ c h lit. elim (d.does_as_well c h (same.back place c h (same.wider place d.legal) lit).1) [
      | inl l ↦ inl (l.0, l.1, same.there l.0 c h (of l.0 l.1) l.2)
      | inr l ↦ inr (same.there by c h d.by_legal l)
    ];
  }

  with_one : (chosen : List ℕ) (place : ℕ) → ((p : ℕ) → Contains chosen p → a.Place p) → a.Place place → (p : ℕ)
      → Contains (chosen ++ place ∷ []) p → a.Place p
  with_one chosen place of one p h = elim (Contains-append_cases chosen (place ∷ []) p h) [
    | inl old ↦ of p old
    | inr new ↦ elim (cons_cases place [] p new) [
      | inl e ↦ subst a.Place e one
      | inr h ↦ no_member p h
    ]
  ]

-- what agrees on the cells agrees on some of them
agrees_less : (a b : Coverage) (cells these : List ℕ) → Agrees a b cells → Agrees a b (left_without these cells)
agrees_less a b cells these same = record {
  wider = same.wider;
  there = λ p c h. same.there p c (left_from these cells c h);
  back = λ p c h. same.back p c (left_from these cells c h);
}

mutual
  -- a good tree is good by each set of rules that agrees on the cells
  pub carries : (a b : Coverage) (cells : List ℕ) → Agrees a b cells → (chosen barred : List ℕ) (floor : ℕ)
      (tree : Tree) → ((p : ℕ) → Contains chosen p → a.Place p) → Good a cells chosen barred floor tree
      → Good b cells chosen barred floor tree
  carries a b cells same chosen barred floor (leaf these) of g =
      (scattered_too a b cells same chosen barred these of g.0, g.1)
  carries a b cells same chosen barred floor (weighted groups) of g =
      (weighted_too a b cells same chosen barred groups of g.0, g.1)
  carries a b cells same chosen barred floor (branch cell kids) of g = (
    unlit_too a b cells same chosen of cell g.0,
    g.1,
    open_too a b cells same barred cell g.1 g.0.of_it g.2,
    all_carry a b cells same chosen barred floor g.1 kids of (λ p h. ((g.2.exact p).0 h).legal) g.3,
  )
  carries a b cells same chosen barred floor (bar place by kid) of g = (
    dominated_too a b cells same chosen barred place by of g.0,
    carries a b cells same chosen (barred ++ place ∷ []) floor kid of g.1,
  )
  carries a b cells same chosen barred floor (omit these kid) of g =
      (g.0, carries a b (left_without these cells) (agrees_less a b cells these same) chosen barred floor kid of g.1)
  carries a b cells same chosen barred floor (pick place with without) of g = (
    record { legal = same.wider place g.0.legal; unchosen = g.0.unchosen; free = g.0.free },
    carries a b cells same (chosen ++ place ∷ []) barred floor with
        (with_one a b cells same chosen place of g.0.legal) g.1,
    carries a b cells same chosen (barred ++ place ∷ []) floor without of g.2,
  )

  -- and so are good kids
  pub all_carry : (a b : Coverage) (cells : List ℕ) → Agrees a b cells → (chosen barred : List ℕ) (floor : ℕ)
      (places : List ℕ) (kids : Forest) → ((p : ℕ) → Contains chosen p → a.Place p)
      → ((p : ℕ) → Contains places p → a.Place p) → AreGood a cells chosen barred floor places kids
      → AreGood b cells chosen barred floor places kids
  all_carry a b cells same chosen barred floor [] none of are g = tt
  all_carry a b cells same chosen barred floor [] (more tree trees) of are g = absurd g
  all_carry a b cells same chosen barred floor (place ∷ places) none of are g = absurd g
  all_carry a b cells same chosen barred floor (place ∷ places) (more tree trees) of are g = (
    carries a b cells same (chosen ++ place ∷ []) barred floor tree
        (with_one a b cells same chosen place of (are place (here place places))) g.0,
    all_carry a b cells same chosen (barred ++ place ∷ []) floor places trees of
        (λ p h. are p (later place places p h)) g.1,
  )
