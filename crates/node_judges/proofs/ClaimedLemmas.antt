-- The cells of claims, one claim after another.
use Rattle.std.proofs.Common.{◌≡◌, ℕ, zero, suc, ◌+◌, ◌<◌, ◌≤◌, List, [], ◌∷◌, ◌++◌, length, take, slice_index}
use Rattle.std.proofs.Common.{Contains, All, get_or, refl, sym, ap, subst, ◌∙◌, arith, inl, inr}
use Rattle.std.specs.Prelude.{true, false}
use Rattle.std.proofs.lemmas.Bool.{cases_eq}
use Rattle.std.proofs.lemmas.List.{length-map, map-append, take_more, get_or-map}
use Rattle.std.proofs.lemmas.List.Elements.{Contains-append_cases, Contains-push_cases, Contains-get_or}
use Rattle.cave_model.specs.Plan.{AreDistinct}
use Rattle.lit_lists.specs.Lists.{LitLists}
use Rattle.lit_lists.proofs.PairLemmas.{fresh}
use Rattle.proof_rules.proofs.ListLemmas.{no_member, cons_cases, later, here, at_member, distinct_nil, distinct_cons}
use Rattle.proof_rules.proofs.ListLemmas.{distinct_append, no_more}
use Rattle.weight_judge.specs.declared.claims.Claim.{Claim}
use Rattle.weight_judge.proofs.ClaimLemmas.{to_map}
use Rattle.node_judges.specs.Tests.{IsFree, AreLitBy}
use Rattle.node_judges.specs.Weighed.{cells_claimed, AreFreeOnce, AreAllLeft, DecidesFreeOnce}

-- ---- distinct numbers below a bound are few

-- all numbers below this one
down : ℕ → List ℕ
down zero = []
down (suc n) = n ∷ down n

length-down : (n : ℕ) → length (down n) ≡ n
unfolding down
length-down zero = refl
length-down (suc n) = omega (arith, length-down n)

down_has : (n z : ℕ) → z < n → Contains (down n) z
unfolding down
down_has zero z lt = absurd (omega arith)
down_has (suc n) z lt = elim (cases_eq n z) [
  | inl e ↦ subst (Contains (n ∷ down n)) e (here n (down n))
  | inr ne ↦ later n (down n) z (down_has n z (omega (arith, lt, ne)))
]

-- at most n distinct numbers are below n
pub few_below : (n : ℕ) (xs : List ℕ) → AreDistinct xs → All (λ x. x < n) xs → length xs ≤ n
few_below n xs once below = omega (
  arith,
  length-down n,
  no_more xs (down n) once (λ z h. down_has n z (at_member (λ x. x < n) xs z below h)),
)

-- ---- free cells, each once

-- the cells of one claim more
pub cells_more : (claims : List Claim) (i : ℕ) (d : Claim) → i < length claims
    → cells_claimed (take (i + 1) claims) ≡ cells_claimed (take i claims) ++ (get_or claims i d).cell ∷ []
cells_more claims i d h = ap cells_claimed (take_more claims i d h)
    ∙ map-append (λ (c : Claim). c.cell) (take i claims) (get_or claims i d ∷ [])

module _ (lists : LitLists) (cells chosen : List ℕ) (claims : List Claim) (i : ℕ) (d : Claim)
    (h : i < length claims) where
  -- one free cell more
  pub free_more : AreFreeOnce lists cells chosen (cells_claimed (take i claims))
      → (¬ Contains (cells_claimed (take i claims)) (get_or claims i d).cell)
      → IsFree lists cells chosen (get_or claims i d).cell
      → AreFreeOnce lists cells chosen (cells_claimed (take (i + 1) claims))
  free_more s fresh_cell free = subst (AreFreeOnce lists cells chosen) (sym (cells_more claims i d h)) (record {
    distinct = distinct_append (cells_claimed (take i claims)) ((get_or claims i d).cell ∷ []) s.distinct
        (distinct_cons (get_or claims i d).cell [] (λ c. no_member (get_or claims i d).cell c) distinct_nil)
        (λ y c e. elim (cons_cases (get_or claims i d).cell [] y e) [
          | inl f ↦ fresh_cell (subst (Contains (cells_claimed (take i claims))) (sym f) c)
          | inr none ↦ no_member y none
        ]);
    free = λ cell c. elim (Contains-push_cases (cells_claimed (take i claims)) (get_or claims i d).cell cell c) [
      | inl old ↦ s.free cell old
      | inr e ↦ subst (IsFree lists cells chosen) e free
    ];
  })

  -- the cell of the claim is one of the claims' cells
  pub cell_there : Contains (cells_claimed claims) (get_or claims i d).cell
  cell_there = to_map (λ (c : Claim). c.cell) claims (get_or claims i d) (Contains-get_or claims i d h)

  -- a cell that was listed before is there twice
  pub repeated : Contains (cells_claimed (take i claims)) (get_or claims i d).cell
      → ¬ AreFreeOnce lists cells chosen (cells_claimed claims)
  repeated c s =
      let lt : i < length (cells_claimed claims) = omega (arith, h, length-map claims (λ (c : Claim). c.cell)) in
      let at : slice_index (cells_claimed claims) i ≡ (get_or claims i d).cell =
      get_or-map (λ (c : Claim). c.cell) claims i d 0 h in
      fresh (cells_claimed claims) i s.distinct lt
      (subst (Contains (take i (cells_claimed claims))) (sym at)
      (subst (λ (l : List ℕ). Contains l (get_or claims i d).cell) (sym (take_map i claims)) c))
    where
      take_map : (i : ℕ) (claims : List Claim) → take i (cells_claimed claims) ≡ cells_claimed (take i claims)
      take_map zero claims = refl
      take_map (suc i) [] = refl
      take_map (suc i) (c ∷ cs) = ap (λ (l : List ℕ). c.cell ∷ l) (take_map i cs)

  -- nor are the claims of free cells, each once, where a chosen place lights the cell
  pub repeated_or_lit : (lit : List ℕ) → AreLitBy lists chosen lit
      → Contains (lit ++ cells_claimed (take i claims)) (get_or claims i d).cell
      → ¬ AreFreeOnce lists cells chosen (cells_claimed claims)
  repeated_or_lit lit l c s = elim
      (Contains-append_cases lit (cells_claimed (take i claims)) (get_or claims i d).cell c) [
        | inl has ↦ (s.free (get_or claims i d).cell cell_there).unlit ((l.each (get_or claims i d).cell).0 has)
        | inr before ↦ repeated before s
      ]

-- ---- what is decided

module _ (lists : LitLists) (cells chosen these : List ℕ) (most : ℕ) where
  -- free cells below a number, each once, are no more than it
  pub decides_once : AreFreeOnce lists cells chosen these → All (λ cell. cell < most) these
      → DecidesFreeOnce lists cells chosen these most true
  decides_once s below = record { decides = (λ t. s, λ is. refl); few = λ t. few_below most these s.distinct below }

  -- others are refused
  pub decides_not : (¬ AreFreeOnce lists cells chosen these) → DecidesFreeOnce lists cells chosen these most false
  decides_not no_s = record { decides = (λ t. absurd cc, λ s. absurd (no_s s)); few = λ t. absurd cc }

-- ---- places that are left

-- as many lists as claims
pub length-left : (lists : LitLists) (barred : List ℕ) (claims : List Claim) (places : List (List ℕ))
    → AreAllLeft lists barred claims places → length places ≡ length claims
length-left lists barred [] [] a = refl
length-left lists barred [] (p ∷ ps) a = absurd a
length-left lists barred (x ∷ xs) [] a = absurd a
length-left lists barred (x ∷ xs) (p ∷ ps) a = omega (arith, length-left lists barred xs ps a.1)
