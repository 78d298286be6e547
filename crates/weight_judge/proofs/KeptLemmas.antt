-- Places keep the capacities of groups just where each holds such claims as it may.
use Rattle.std.proofs.Common.{◌≡◌, ◌≢◌, ◌⊎◌, ℕ, zero, suc, ◌+◌, ◌<◌, ◌≤◌, List, [], ◌∷◌, ◌++◌, length}
use Rattle.std.proofs.Common.{map, Contains, All}
use Rattle.std.proofs.Common.{refl, sym, ap, subst, ◌∙◌, arith, inl, inr, get_or}
use Rattle.std.specs.Prelude.{Bool, true, false, remove}
use Rattle.std.specs.List.{AllPairs}
use Rattle.std.proofs.lemmas.Bool.{cases_eq, cases_lt}
use Rattle.std.proofs.lemmas.List.{get_or_default}
use Rattle.std.proofs.lemmas.List.Edits.{length-remove, get_or-remove_below, get_or-remove_above}
use Rattle.std.proofs.lemmas.List.Elements.{All-head, All-tail, All-nil, All-cons, Contains-get_or}
use Rattle.std.proofs.lemmas.List.Elements.{Contains-append_left, Contains-append_right}
use Rattle.std.proofs.lemmas.List.Sums.{sum_by-cons, sum_by-remove}
use Rattle.cave_model.specs.Coverage.{Coverage}
use Rattle.cave_model.specs.Plan.{AreDistinct}
use Rattle.proof_rules.specs.declared.groups.Share.{Share}
use Rattle.proof_rules.specs.declared.groups.Group.{Group}
use Rattle.proof_rules.specs.Groups.{cells_of, all_cells_of, weight_of}
use Rattle.proof_rules.specs.Omitted.{is_among}
use Rattle.proof_rules.specs.Good.{KeepsCapacity, ShareNoPlace, IsOpen}
use Rattle.proof_rules.proofs.ListLemmas.{distinct_head, distinct_tail, distinct_nil, distinct_cons}
use Rattle.proof_rules.proofs.GroupLemmas.{cell_of_share}
use Rattle.proof_rules.proofs.OmitLemmas.{bool_cases, among, is_one}
use Rattle.weight_judge.specs.declared.claims.Claim.{Claim}
use Rattle.weight_judge.specs.Claims.{claim_of, claims_of}
use Rattle.weight_judge.specs.Held.{if_held, held, weight_claimed, AreAllKept, AreAllOpen}
use Rattle.weight_judge.proofs.ClaimLemmas.{from_map, to_map, claim_from, claim_in, claim_cells}
use Rattle.weight_judge.proofs.HeldLemmas.{held_from}

-- ---- what weighs on a place

-- an element of a list other than that at an index is left where that is removed
left_over : (xs : List Claim) (i : ℕ) (y : Claim) → i < length xs → Contains xs y → (get_or xs i y ≡ y → ⊥)
    → Contains (remove xs i) y
left_over xs i y lt h other = elim (cases_lt h.0 i) [
  | inl before ↦ (
    h.0,
    omega (arith, length-remove xs i lt, before),
    get_or-remove_below xs i y h.0 before lt ∙ h.2,
  )
  | inr le ↦ elim (cases_eq h.0 i) [
    | inl e ↦ absurd (other (subst (λ (k : ℕ). get_or xs k y ≡ y) e h.2))
    | inr ne ↦ after xs i y lt h.0 h.1 h.2 le ne
  ]
]
  where
    after : (xs : List Claim) (i : ℕ) (y : Claim) → i < length xs → (k : ℕ) → k < length xs → get_or xs k y ≡ y
        → i ≤ k → k ≢ i → Contains (remove xs i) y
    after xs i y lt zero in' at le ne = absurd (ne (omega arith))
    after xs i y lt (suc k) in' at le ne =
        let next : k + 1 ≡ suc k = omega arith in (
          k,
          omega (arith, length-remove xs i lt),
          get_or-remove_above xs i y k (omega arith) lt ∙ ap (λ (n : ℕ). get_or xs n y) next ∙ at,
        )

-- shares of distinct cells weigh no more than claims among which are theirs
weigh_no_more : (group capacity : ℕ) (these : List Share) (claims : List Claim) → AreDistinct (cells_of these)
    → All (λ share. Contains claims (claim_of group capacity share)) these → weight_of these ≤ weight_claimed claims
weigh_no_more group capacity [] claims once of = omega arith
weigh_no_more group capacity (x ∷ xs) claims once of =
    let h : Contains claims (claim_of group capacity x) =
    All-head (λ (s : Share). Contains claims (claim_of group capacity s)) x xs of in
    let more = All-tail (λ (s : Share). Contains claims (claim_of group capacity s)) x xs of in
    let rest : weight_of xs ≤ weight_claimed (remove claims h.0) =
    weigh_no_more group capacity xs (remove claims h.0) (distinct_tail x.cell (cells_of xs) once)
    (λ k d lt. left_over claims h.0 (claim_of group capacity (get_or xs k d)) h.1 (more k d lt)
    (λ e. distinct_head x.cell (cells_of xs) once (subst (λ (c : ℕ). Contains (cells_of xs) c)
    (ap (λ (c : Claim). c.cell) (sym (sym h.2
    ∙ get_or_default claims h.0 (claim_of group capacity x) (claim_of group capacity (get_or xs k d)) h.1 ∙ e)))
    (cell_of_share xs (get_or xs k d) (Contains-get_or xs k d lt))))) in
    let gone : weight_claimed (remove claims h.0) + (get_or claims h.0 (claim_of group capacity x)).weight
    ≡ weight_claimed claims = sum_by-remove (λ (c : Claim). c.weight) claims h.0 (claim_of group capacity x) h.1 in
    let part : (get_or claims h.0 (claim_of group capacity x)).weight ≡ x.weight =
    ap (λ (c : Claim). c.weight) h.2 in
    let sum : weight_of (x ∷ xs) ≡ x.weight + weight_of xs = sum_by-cons (λ (s : Share). s.weight) x xs in
    omega (arith, rest, gone, part, sum)

-- the share of a claim
abbrev share_of : Claim → Share
share_of claim = record { cell = claim.cell; weight = claim.weight }

-- their shares weigh as much as claims
shares_weigh : (claims : List Claim) → weight_of (map share_of claims) ≡ weight_claimed claims
shares_weigh [] = refl
shares_weigh (c ∷ cs) = sum_by-cons (λ (s : Share). s.weight) (share_of c) (map share_of cs)
    ∙ ap (λ (n : ℕ). c.weight + n) (shares_weigh cs) ∙ sym (sum_by-cons (λ (x : Claim). x.weight) c cs)

-- and have their cells
shares_cells : (claims : List Claim) → cells_of (map share_of claims) ≡ map (λ (c : Claim). c.cell) claims
shares_cells [] = refl
shares_cells (c ∷ cs) = ap (λ (l : List ℕ). c.cell ∷ l) (shares_cells cs)

-- what holds of all members holds of each image
all_images : (P : Share → Type 0) (claims : List Claim) → ((c : Claim) → Contains claims c → P (share_of c))
    → All P (map share_of claims)
all_images P [] f = All-nil P
all_images P (c ∷ cs) f = All-cons P (share_of c) (map share_of cs)
    (f c (Contains-append_left (c ∷ []) cs c (0, omega arith, refl)))
    (all_images P cs (λ d h. f d (Contains-append_right (c ∷ []) cs d h)))

-- a claim of a list with one more is that one or of the rest
claim_cases : (x : Claim) (xs : List Claim) (c : Claim) → Contains (x ∷ xs) c → (x ≡ c) ⊎ Contains xs c
claim_cases x xs c (zero, lt, e) = inl e
claim_cases x xs c (suc k, lt, e) = inr (k, omega (arith, lt), e)

-- the cells of what a place holds are distinct where all are
held_once : (place : ℕ) (claims : List Claim) (lists : List (List ℕ)) → AreDistinct (map (λ (c : Claim). c.cell) claims)
    → AreDistinct (map (λ (c : Claim). c.cell) (held place claims lists))
held_once place [] lists once = once
held_once place (c ∷ cs) [] once = distinct_nil
held_once place (c ∷ cs) (l ∷ ls) once = with_first (is_among l place) c cs (held place cs ls) once
    (held_from place cs ls) (held_once place cs ls (distinct_tail c.cell (map (λ (c : Claim). c.cell) cs) once))
  where
    with_first : (b : Bool) (c : Claim) (cs rest : List Claim) → AreDistinct (map (λ (c : Claim). c.cell) (c ∷ cs))
        → ((d : Claim) → Contains rest d → Contains cs d) → AreDistinct (map (λ (c : Claim). c.cell) rest)
        → AreDistinct (map (λ (c : Claim). c.cell) (if_held b c ++ rest))
    with_first true c cs rest once of d = distinct_cons c.cell (map (λ (c : Claim). c.cell) rest)
        (λ h. (let m = from_map (λ (c : Claim). c.cell) rest c.cell h in
        distinct_head c.cell (map (λ (c : Claim). c.cell) cs) once
        (subst (Contains (map (λ (c : Claim). c.cell) cs)) m.2
        (to_map (λ (c : Claim). c.cell) cs m.0 (of m.0 m.1))))) d
    with_first false c cs rest once of d = d

module _ (coverage : Coverage) (barred : List ℕ) where
  -- of a claim that a place holds, it is open to light the cell
  held_open : (claims : List Claim) (lists : List (List ℕ)) → AreAllOpen coverage barred claims lists
      → (place : ℕ) (c : Claim) → Contains (held place claims lists) c → IsOpen coverage barred c.cell place
  held_open [] lists opened place c h = absurd (omega (arith, h.1))
  held_open (x ∷ xs) [] opened place c h = absurd (omega (arith, h.1))
  held_open (x ∷ xs) (l ∷ ls) opened place c h = elim (bool_cases (is_among l place)) [
    | inl e ↦ elim (claim_cases x (held place xs ls) c
        (subst (λ (b : Bool). Contains (if_held b x ++ held place xs ls) c) e h)) [
          | inl f ↦ subst (λ (d : Claim). IsOpen coverage barred d.cell place) f
              ((opened.0.exact place).0 (is_one l place e))
          | inr h ↦ held_open xs ls opened.1 place c h
        ]
    | inr e ↦ held_open xs ls opened.1 place c
        (subst (λ (b : Bool). Contains (if_held b x ++ held place xs ls) c) e h)
  ]

  -- it holds all for whose cells it is open
  open_held : (claims : List Claim) (lists : List (List ℕ)) → AreAllOpen coverage barred claims lists
      → (place : ℕ) (c : Claim) → Contains claims c → IsOpen coverage barred c.cell place
      → Contains (held place claims lists) c
  open_held [] lists opened place c h o = absurd (omega (arith, h.1))
  open_held (x ∷ xs) [] opened place c h o = absurd opened
  open_held (x ∷ xs) (l ∷ ls) opened place c h o = elim (claim_cases x xs c h) [
    | inl e ↦ (let b = among l place ((opened.0.exact place).1
        (subst (λ (d : Claim). IsOpen coverage barred d.cell place) (sym e) o)) in
        subst (λ (b : Bool). Contains (if_held b x ++ held place xs ls) c) (sym b)
        (Contains-append_left (x ∷ []) (held place xs ls) c (0, omega arith, e)))
    | inr h ↦ Contains-append_right (if_held (is_among l place) x) (held place xs ls) c
        (open_held xs ls opened.1 place c h o)
  ]

  module _ (groups : List Group) (lists : List (List ℕ)) (opened : AreAllOpen coverage barred (claims_of groups) lists)
    where
      -- a share that a place is open to light is held by it
      held_share : (place at : ℕ) (d : Group) (share : Share) → at < length groups
          → Contains (get_or groups at d).shares share → IsOpen coverage barred share.cell place
          → Contains (held place (claims_of groups) lists) (claim_of at (get_or groups at d).capacity share)
      held_share place at d share lt h o = open_held (claims_of groups) lists opened place
          (claim_of at (get_or groups at d).capacity share)
          (subst (λ (k : ℕ). Contains (claims_of groups) (claim_of k (get_or groups at d).capacity share)) (no_more at)
          (claim_in 0 groups at d share lt h)) o
        where
          no_more : (n : ℕ) → 0 + n ≡ n
          no_more n = omega arith

      -- where each place holds such as it may, all capacities are kept
      pub kept_capacities : AreAllKept (claims_of groups) lists → All (KeepsCapacity coverage barred) groups
      kept_capacities kept at d lt place legal free [] are = omega arith
      kept_capacities kept at d lt place legal free (x ∷ xs) are =
          let group = get_or groups at d in
          let all : All (λ share. Contains (held place (claims_of groups) lists) (claim_of at group.capacity share))
          (x ∷ xs) = λ i e h. held_share place at d (get_or (x ∷ xs) i e) lt (are.of_them i e h)
          (record { legal = legal; lights = are.lit i e h; free = free }) in
          let first = All-head
          (λ (s : Share). Contains (held place (claims_of groups) lists) (claim_of at group.capacity s)) x xs all in
          let within : weight_claimed (held place (claims_of groups) lists) ≤ group.capacity =
          (kept.each place).within (claim_of at group.capacity x) first in
          let weight = weigh_no_more at group.capacity (x ∷ xs) (held place (claims_of groups) lists) are.once all in
          omega (arith, within, weight)

      -- and no groups share a place
      pub kept_apart : AreAllKept (claims_of groups) lists → AllPairs (ShareNoPlace coverage barred) groups
      kept_apart kept i j d lt h place a b legal free ha hb la lb =
          let x = from_map (λ (s : Share). s.cell) (get_or groups i d).shares a ha in
          let y = from_map (λ (s : Share). s.cell) (get_or groups j d).shares b hb in
          let at = held_share place i d x.0 (omega (arith, lt, h)) x.1
          (record { legal = legal; lights = subst (coverage.Covers place) (sym x.2) la; free = free }) in
          let and = held_share place j d y.0 h y.1
          (record { legal = legal; lights = subst (coverage.Covers place) (sym y.2) lb; free = free }) in
          let same : i ≡ j = (kept.each place).one_group (claim_of i (get_or groups i d).capacity x.0)
          (claim_of j (get_or groups j d).capacity y.0) at and in
          absurd (omega (arith, lt, same))

      -- where the capacities are kept and no groups share a place, each place holds such as it may
      pub all_kept : AreDistinct (all_cells_of groups) → All (KeepsCapacity coverage barred) groups
          → AllPairs (ShareNoPlace coverage barred) groups → AreAllKept (claims_of groups) lists
      all_kept once keep apart = record {
        each = λ place. record {
          one_group = λ a b ha hb. one_group place a b ha hb;
          within = λ a ha. within place a ha;
        };
      } where
        none : Group
        none = record { capacity = 0; shares = [] }

        apart_too : (place : ℕ) (a b : Claim) → Contains (held place (claims_of groups) lists) a
            → Contains (held place (claims_of groups) lists) b → ¬ (a.group < b.group)
        apart_too place a b ha hb lt =
            let x = claim_from 0 groups a (held_from place (claims_of groups) lists a ha) in
            let y = claim_from 0 groups b (held_from place (claims_of groups) lists b hb) in
            let oa = held_open (claims_of groups) lists opened place a ha in
            let ob = held_open (claims_of groups) lists opened place b hb in
            apart x.at y.at none (omega (arith, x.group, y.group, lt)) y.inside place a.cell b.cell oa.legal oa.free
            (subst (Contains (cells_of (get_or groups x.at none).shares)) (sym x.cell)
            (cell_of_share (get_or groups x.at none).shares x.share (x.there none)))
            (subst (Contains (cells_of (get_or groups y.at none).shares)) (sym y.cell)
            (cell_of_share (get_or groups y.at none).shares y.share (y.there none))) oa.lights ob.lights

        one_group : (place : ℕ) (a b : Claim) → Contains (held place (claims_of groups) lists) a
            → Contains (held place (claims_of groups) lists) b → a.group ≡ b.group
        one_group place a b ha hb = elim (cases_lt a.group b.group) [
          | inl lt ↦ absurd (apart_too place a b ha hb lt)
          | inr le ↦ elim (cases_lt b.group a.group) [
            | inl lt ↦ absurd (apart_too place b a hb ha lt)
            | inr other ↦ omega (arith, le, other)
          ]
        ]

        within : (place : ℕ) (a : Claim) → Contains (held place (claims_of groups) lists) a
            → weight_claimed (held place (claims_of groups) lists) ≤ a.capacity
        within place a ha =
            let x = claim_from 0 groups a (held_from place (claims_of groups) lists a ha) in
            let oa = held_open (claims_of groups) lists opened place a ha in
            let all = held place (claims_of groups) lists in
            let most : weight_of (map share_of all) ≤ (get_or groups x.at none).capacity =
            keep x.at none x.inside place oa.legal oa.free (map share_of all) (record {
              of_them = all_images (Contains (get_or groups x.at none).shares) all (λ b hb.
                  (let y = claim_from 0 groups b (held_from place (claims_of groups) lists b hb) in
                  let at : y.at ≡ x.at = omega (arith, x.group, y.group, one_group place a b ha hb) in
                  let same : y.share ≡ share_of b = share_same y.share b (sym y.cell) (sym y.weight) in
                  subst (λ (k : ℕ). Contains (get_or groups k none).shares (share_of b)) at
                  (subst (Contains (get_or groups y.at none).shares) same (y.there none))));
              once = subst AreDistinct (sym (shares_cells all)) (held_once place (claims_of groups) lists
                  (subst AreDistinct (sym (claim_cells 0 groups)) once));
              lit = all_images (λ share. coverage.Covers place share.cell) all
                  (λ b hb. (held_open (claims_of groups) lists opened place b hb).lights);
            }) in
            omega (arith, most, shares_weigh all, x.capacity none)
          where
            share_same : (s : Share) (c : Claim) → s.cell ≡ c.cell → s.weight ≡ c.weight → s ≡ share_of c
            share_same s c e f = rw (e, f) refl
