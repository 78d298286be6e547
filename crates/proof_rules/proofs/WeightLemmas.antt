-- What shares weigh, and how many places that takes.
use Rattle.std.proofs.Common.{◌≡◌, ℕ, ◌+◌, ◌*◌, ◌<◌, ◌≤◌, List, [], ◌∷◌, length, Contains, All, refl, sym, subst}
use Rattle.std.proofs.Common.{arith, inl, inr}
use Rattle.std.specs.Int.{div_ceil}
use Rattle.std.proofs.Math.Nat.{lt_of_mul-lt-mul_right}
use Rattle.std.proofs.lemmas.Grind.{div_ceil_times}
use Rattle.std.proofs.lemmas.List.Elements.{All-nil, All-cons, All-head, All-tail}
use Rattle.std.proofs.lemmas.List.Sums.{sum_by-cons}
use Rattle.cave_model.specs.Coverage.{Coverage, IsLitBy}
use Rattle.cave_model.specs.Plan.{AreDistinct}
use Rattle.proof_rules.specs.declared.groups.Share.{Share}
use Rattle.proof_rules.specs.Groups.{weight_of, cells_of}
use Rattle.proof_rules.specs.Good.{AreLitShares}
use Rattle.proof_rules.proofs.ListLemmas.{no_member, cons_cases, later, here, distinct_nil, distinct_cons}
use Rattle.proof_rules.proofs.ListLemmas.{distinct_tail, distinct_head}

-- `count` places of this capacity are enough for a weight of at most `count * capacity`
pub ceil_at_most : (weight capacity count : ℕ) → 0 < capacity → weight ≤ count * capacity
    → div_ceil weight capacity ≤ count
ceil_at_most weight capacity count some le =
    let t = (div_ceil_times weight capacity some).1 in
    let below : div_ceil weight capacity * capacity < (count + 1) * capacity = omega (arith, t, le) in
    let lt : div_ceil weight capacity < count + 1 = lt_of_mul-lt-mul_right capacity below in
    omega (arith, lt)

-- the first share and the rest weigh what they weigh together
pub weight-cons : (share : Share) (shares : List Share) → weight_of (share ∷ shares)
    ≡ share.weight + weight_of shares
weight-cons share shares = sum_by-cons (λ (s : Share). s.weight) share shares

-- ---- the shares that a place lights, and the others

-- shares in two parts: the cells of the first are lit by a place, those of the other by some of the other places
pub record AreParted (coverage : Coverage) (shares : List Share) (place : ℕ) (places : List ℕ)
    (these taken rest : List Share) : Type 0 where
  pub whole : weight_of these ≡ weight_of taken + weight_of rest
  pub taken_of : All (Contains shares) taken
  pub rest_of : All (Contains shares) rest
  pub taken_once : AreDistinct (cells_of taken)
  pub rest_once : AreDistinct (cells_of rest)
  pub taken_from : (cell : ℕ) → Contains (cells_of taken) cell → Contains (cells_of these) cell
  pub rest_from : (cell : ℕ) → Contains (cells_of rest) cell → Contains (cells_of these) cell
  pub taken_lit : All (λ share. coverage.Covers place share.cell) taken
  pub rest_lit : All (λ share. IsLitBy coverage places share.cell) rest

module _ (coverage : Coverage) (shares : List Share) where
  -- lit by one of the places
  abbrev LitBy : List ℕ → Share → Type 0
  LitBy places share = IsLitBy coverage places share.cell

  -- lit by the place
  abbrev Lit : ℕ → Share → Type 0
  Lit place share = coverage.Covers place share.cell

  module _ (place : ℕ) (places : List ℕ) where
    -- no shares in two parts
    parted_nil : AreParted coverage shares place places [] [] []
    parted_nil = record {
      whole = refl;
      taken_of = All-nil (Contains shares);
      rest_of = All-nil (Contains shares);
      taken_once = distinct_nil;
      rest_once = distinct_nil;
      taken_from = λ c h. h;
      rest_from = λ c h. h;
      taken_lit = All-nil (Lit place);
      rest_lit = All-nil (LitBy places);
    }

    -- one share more, which the place lights
    taken_more : (x : Share) (xs taken rest : List Share) → Contains shares x → AreDistinct (cells_of (x ∷ xs))
        → Lit place x → AreParted coverage shares place places xs taken rest
        → AreParted coverage shares place places (x ∷ xs) (x ∷ taken) rest
    taken_more x xs taken rest of once lit t = record {
      whole = omega (arith, weight-cons x xs, weight-cons x taken, t.whole);
      taken_of = All-cons (Contains shares) x taken of t.taken_of;
      rest_of = t.rest_of;
      taken_once = distinct_cons x.cell (cells_of taken)
          (λ h. distinct_head x.cell (cells_of xs) once (t.taken_from x.cell h)) t.taken_once;
      rest_once = t.rest_once;
      taken_from = λ c h. elim (cons_cases x.cell (cells_of taken) c h) [
        | inl e ↦ subst (Contains (cells_of (x ∷ xs))) e (here x.cell (cells_of xs))
        | inr h ↦ later x.cell (cells_of xs) c (t.taken_from c h)
      ];
      rest_from = λ c h. later x.cell (cells_of xs) c (t.rest_from c h);
      taken_lit = All-cons (Lit place) x taken lit t.taken_lit;
      rest_lit = t.rest_lit;
    }

    -- one share more, which another of the places lights
    rest_more : (x : Share) (xs taken rest : List Share) → Contains shares x → AreDistinct (cells_of (x ∷ xs))
        → LitBy places x → AreParted coverage shares place places xs taken rest
        → AreParted coverage shares place places (x ∷ xs) taken (x ∷ rest)
    rest_more x xs taken rest of once lit t = record {
      whole = omega (arith, weight-cons x xs, weight-cons x rest, t.whole);
      taken_of = t.taken_of;
      rest_of = All-cons (Contains shares) x rest of t.rest_of;
      taken_once = t.taken_once;
      rest_once = distinct_cons x.cell (cells_of rest)
          (λ h. distinct_head x.cell (cells_of xs) once (t.rest_from x.cell h)) t.rest_once;
      taken_from = λ c h. later x.cell (cells_of xs) c (t.taken_from c h);
      rest_from = λ c h. elim (cons_cases x.cell (cells_of rest) c h) [
        | inl e ↦ subst (Contains (cells_of (x ∷ xs))) e (here x.cell (cells_of xs))
        | inr h ↦ later x.cell (cells_of xs) c (t.rest_from c h)
      ];
      taken_lit = t.taken_lit;
      rest_lit = All-cons (LitBy places) x rest lit t.rest_lit;
    }

    -- shares that these places light, in two parts
    part : (these : List Share) → All (Contains shares) these → AreDistinct (cells_of these)
        → All (LitBy (place ∷ places)) these
        → (taken : List Share) × (rest : List Share) × AreParted coverage shares place places these taken rest
    part [] of once lit = ([], [], parted_nil)
    part (x ∷ xs) of once lit =
        let t = part xs (All-tail (Contains shares) x xs of) (distinct_tail x.cell (cells_of xs) once)
        (All-tail (LitBy (place ∷ places)) x xs lit) in
        let first : Contains shares x = All-head (Contains shares) x xs of in
        let by : LitBy (place ∷ places) x = All-head (LitBy (place ∷ places)) x xs lit in
        elim (cons_cases place places by.0 by.1) [
          | inl e ↦ (
            x ∷ t.0,
            t.1,
            taken_more x xs t.0 t.1 first once (subst (λ (p : ℕ). coverage.Covers p x.cell) (sym e) by.2) t.2,
          )
          | inr h ↦ (t.0, x ∷ t.1, rest_more x xs t.0 t.1 first once (by.0, h, by.2) t.2)
        ]

  -- what some places light weighs at most their number times the capacity, which is the most that one may light
  pub weighs_at_most : (capacity : ℕ) (places : List ℕ)
      → ((place : ℕ) → Contains places place → (some : List Share) → AreLitShares coverage place shares some
      → weight_of some ≤ capacity)
      → (these : List Share) → All (Contains shares) these → AreDistinct (cells_of these) → All (LitBy places) these
      → weight_of these ≤ length places * capacity
  weighs_at_most capacity [] within [] of once lit = omega arith
  weighs_at_most capacity [] within (x ∷ xs) of once lit =
      let by : LitBy [] x = All-head (LitBy []) x xs lit in no_member by.0 by.1
  weighs_at_most capacity (p ∷ ps) within these of once lit =
      let t = part p ps these of once lit in
      let now : weight_of t.0 ≤ capacity = within p (here p ps) t.0
      (record { of_them = t.2.taken_of; once = t.2.taken_once; lit = t.2.taken_lit }) in
      let rest : weight_of t.1 ≤ length ps * capacity =
      weighs_at_most capacity ps (λ q h. within q (later p ps q h)) t.1 t.2.rest_of t.2.rest_once t.2.rest_lit in
      let both : weight_of these ≡ weight_of t.0 + weight_of t.1 = t.2.whole in
      omega (arith, now, rest, both)
