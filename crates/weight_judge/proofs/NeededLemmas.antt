-- Sums of weights and of places don't wrap.
use Rattle.std.proofs.Common.{◌≡◌, ℕ, ◌+◌, ◌*◌, ◌<◌, ◌≤◌, List, [], ◌∷◌, ◌++◌, length, take, get_or, arith}
use Rattle.std.proofs.Common.{ap, sym, ◌∙◌, length-append}
use Rattle.std.proofs.lemmas.List.{length-map, take_more, append-nil}
use Rattle.std.proofs.lemmas.List.Concat.{flat_map-append}
use Rattle.std.proofs.lemmas.List.Folds.{length-flat_map-take}
use Rattle.std.proofs.lemmas.List.Sums.{sum_by_push}
use Rattle.proof_rules.specs.declared.groups.Share.{Share}
use Rattle.proof_rules.specs.declared.groups.Group.{Group}
use Rattle.proof_rules.specs.Groups.{cells_of, all_cells_of, places_for, places_for_all}

module _ (groups : List Group) (index : ℕ) (g : Group) (lt : index < length groups) (is : g ≡ get_or groups index g)
  where
    cells_len : length (cells_of g.shares) ≡ length g.shares
    cells_len = length-map g.shares (λ (s : Share). s.cell)

    -- the cells of the groups so far and of the next are among all
    pub sum_fits : length (all_cells_of (take index groups)) + length g.shares ≤ length (all_cells_of groups)
    sum_fits =
        let a = length-flat_map-take (λ (h : Group). cells_of h.shares) groups index g lt in
        let e : length (cells_of (get_or groups index g).shares) ≡ length (cells_of g.shares) =
        ap (λ (h : Group). length (cells_of h.shares)) (sym is) in
        omega (arith, a, e, cells_len)

    -- so a group has no more
    pub few_shares : (most : ℕ) → length (all_cells_of groups) ≤ most → length g.shares ≤ most
    few_shares most few = omega (arith, sum_fits, few)

    -- the places of one group more
    pub next_needed : (total more : ℕ)
        → ((total ≡ places_for_all (take index groups))
        × (total ≤ length (all_cells_of (take index groups)) * 4294967295))
        → more ≡ places_for g → more ≤ length g.shares * 4294967295
        → (total + more ≡ places_for_all (take (index + 1) groups))
        × (total + more ≤ length (all_cells_of (take (index + 1) groups)) * 4294967295)
    next_needed total more old e few =
        let next : take (index + 1) groups ≡ take index groups ++ g ∷ [] = take_more groups index g lt
        ∙ ap (λ (h : Group). take index groups ++ h ∷ []) (sym is) in
        let sum : places_for_all (take (index + 1) groups) ≡ places_for_all (take index groups) + places_for g =
        ap places_for_all next ∙ sum_by_push places_for (take index groups) g in
        let long : length (all_cells_of (take (index + 1) groups))
        ≡ length (all_cells_of (take index groups)) + length (cells_of g.shares) =
        ap (λ (l : List Group). length (all_cells_of l)) next
        ∙ ap length (flat_map-append (λ (h : Group). cells_of h.shares) (take index groups) (g ∷ []))
        ∙ length-append (all_cells_of (take index groups)) (cells_of g.shares ++ [])
        ∙ ap (λ (l : List ℕ). length (all_cells_of (take index groups)) + length l) (append-nil (cells_of g.shares)) in
        (omega (arith, old.0, e, sum), omega (arith, old.1, few, long, cells_len))
