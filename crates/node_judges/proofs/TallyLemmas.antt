-- How often a cell stands in a list.
use Rattle.std.proofs.Common.{◌≡◌, ◌≢◌, ℕ, ◌+◌, ◌-◌, ◌<◌, ◌≤◌, inl, inr, List, [], ◌∷◌, ◌++◌, length, set}
use Rattle.std.proofs.Common.{slice_index, All, Contains, IsTrue, refl, sym, ap, subst, ◌∙◌, arith, length-set}
use Rattle.std.proofs.Common.{get_or-set_same, get_or-set_other}
use Rattle.std.specs.Prelude.{Bool, true, false, nat_eq, if◌then◌else◌, nat_lt, ◌↔◌}
use Rattle.std.proofs.lemmas.Bool.{cases_eq, eqb-true, eq-eqb, ltb-true}
use Rattle.std.proofs.lemmas.Bool.Decides.{nat_tests}
use Rattle.std.proofs.lemmas.List.Elements.{All-head, All-tail, Contains-push, Contains-append_left}
use Rattle.proof_rules.proofs.ListLemmas.{no_member, cons_cases, here, later, all_members, at_member}
use Rattle.node_judges.specs.Tally.{Tally, IsTally, times}

-- one where a flag is set
one_if : Bool → ℕ
one_if true = 1
one_if false = 0

-- a choice between one and none is that number
is_one_if : (b : Bool) → ◌≡◌ {A = ℕ} (if b then 1 else 0) (one_if b)
unfolding one_if
is_one_if true = refl
is_one_if false = refl

-- a cell counts itself once
same_one : (a b : ℕ) → a ≡ b → ◌≡◌ {A = ℕ} (if nat_eq a b then 1 else 0) 1
unfolding one_if
same_one a b e = is_one_if (nat_eq a b) ∙ ap one_if (eq-eqb a b e)

-- and others not
differ_none : (a b : ℕ) → a ≢ b → ◌≡◌ {A = ℕ} (if nat_eq a b then 1 else 0) 0
unfolding one_if
differ_none a b ne = is_one_if (nat_eq a b) ∙ ap one_if (go (nat_eq a b) refl) where
  go : (x : Bool) → nat_eq a b ≡ x → nat_eq a b ≡ false
  go true e = absurd (ne (eqb-true a b e))
  go false e = e

-- how often a cell stands in two lists is the sum
times_on : (cell : ℕ) (xs ys : List ℕ) → times cell (xs ++ ys) ≡ times cell xs + times cell ys
times_on cell [] ys = omega arith
times_on cell (x ∷ xs) ys = (let e = times_on cell xs ys in omega arith)

-- a cell put at the end stands there once more
pub times_same : (cell : ℕ) (xs : List ℕ) → times cell (xs ++ cell ∷ []) ≡ times cell xs + 1
times_same cell xs = (let e = times_on cell xs (cell ∷ []) in let o = same_one cell cell refl in omega arith)

-- another cell stands there as often as before
pub times_other : (cell other : ℕ) (xs : List ℕ) → cell ≢ other → times other (xs ++ cell ∷ []) ≡ times other xs
times_other cell other xs ne =
    (let e = times_on other xs (cell ∷ []) in let o = differ_none cell other ne in omega arith)

-- a cell of a list stands there at least once
pub has_times : (cell : ℕ) (xs : List ℕ) → Contains xs cell → 0 < times cell xs
has_times cell [] h = no_member cell h
has_times cell (x ∷ xs) h = elim (cons_cases x xs cell h) [
  | inl e ↦ (let o = same_one x cell e in omega arith)
  | inr h ↦ (let r = has_times cell xs h in omega arith)
]

-- a cell that stands there at least once is of the list
pub times_has : (cell : ℕ) (xs : List ℕ) → 0 < times cell xs → Contains xs cell
times_has cell [] p = absurd (omega arith)
times_has cell (x ∷ xs) p = elim (cases_eq x cell) [
  | inl e ↦ subst (Contains (x ∷ xs)) e (here x xs)
  | inr ne ↦ (let o = differ_none x cell ne in later x xs cell (times_has cell xs (omega arith)))
]

-- a cell stands in a list at most as often as the list is long
pub times_most : (cell : ℕ) (xs : List ℕ) → times cell xs ≤ length xs
times_most cell [] = omega arith
times_most cell (x ∷ xs) = elim (cases_eq x cell) [
  | inl e ↦ (let o = same_one x cell e in let r = times_most cell xs in omega arith)
  | inr ne ↦ (let o = differ_none x cell ne in let r = times_most cell xs in omega arith)
]

-- ---- the list grows and shrinks

abbrev tally : List ℕ → List ℕ → Tally
tally items counts = record { items = items; counts = counts }

-- a cell more with its count raised keeps the tally
pub tally_push : (items counts : List ℕ) (cell : ℕ) → IsTally (tally items counts) → cell < length counts → (more : ℕ)
    → more ≡ slice_index counts cell + 1 → IsTally (tally (items ++ cell ∷ []) (set counts cell more))
tally_push items counts cell t h more e = record {
  inside = all_members (λ c. c < length (set counts cell more)) (items ++ cell ∷ [])
      (λ y c. (let same = length-set counts cell more in omega (arith, below y c)));
  counted = λ other lt. (elim (cases_eq cell other) [
    | inl same ↦ subst (λ (o : ℕ). slice_index (set counts cell more) o ≡ times o (items ++ cell ∷ [])) same
        (get_or-set_same counts cell more 0 h ∙ e ∙ ap (λ (n : ℕ). n + 1) (t.counted cell h)
        ∙ sym (times_same cell items))
    | inr ne ↦ get_or-set_other counts cell other more 0 (λ f. ne (sym f))
        ∙ t.counted other (omega (arith, length-set counts cell more)) ∙ sym (times_other cell other items ne)
  ]);
} where
  below : (y : ℕ) → Contains (items ++ cell ∷ []) y → y < length counts
  below y c = go items t.inside c where
    go : (xs : List ℕ) → All (λ c. c < length counts) xs → Contains (xs ++ cell ∷ []) y → y < length counts
    go [] a c = elim (cons_cases cell [] y c) [ inl e ↦ omega arith | inr n ↦ no_member y n ]
    go (x ∷ xs) a c = elim (cons_cases x (xs ++ cell ∷ []) y c) [
      | inl e ↦ (let l : x < length counts = All-head (λ c. c < length counts) x xs a in omega arith)
      | inr n ↦ go xs (All-tail (λ c. c < length counts) x xs a) n
    ]

-- a cell less with its count lowered keeps the tally
pub tally_pop : (items counts : List ℕ) (cell : ℕ) → IsTally (tally (items ++ cell ∷ []) counts) → (less : ℕ)
    → less ≡ slice_index counts cell - 1 → IsTally (tally items (set counts cell less))
tally_pop items counts cell t less e = record {
  inside = all_members (λ c. c < length (set counts cell less)) items
      (λ y c. (let same = length-set counts cell less in let l : y < length counts = at_member (λ c. c < length counts)
      (items ++ cell ∷ []) y t.inside (Contains-append_left items (cell ∷ []) y c) in omega arith));
  counted = λ other lt. (elim (cases_eq cell other) [
    | inl same ↦ subst (λ (o : ℕ). slice_index (set counts cell less) o ≡ times o items) same
        (get_or-set_same counts cell less 0 inside
        ∙ (let a = t.counted cell inside in let b = times_same cell items in omega arith))
    | inr ne ↦ get_or-set_other counts cell other less 0 (λ f. ne (sym f))
        ∙ t.counted other (omega (arith, length-set counts cell less)) ∙ times_other cell other items ne
  ]);
} where
  inside : cell < length counts
  inside = at_member (λ c. c < length counts) (items ++ cell ∷ []) cell t.inside (Contains-push items cell)

-- the last cell of a tally is within it and counted
pub pop_inside : (items counts : List ℕ) (cell : ℕ) → IsTally (tally (items ++ cell ∷ []) counts)
    → (cell < length counts) × (0 < slice_index counts cell)
pop_inside items counts cell t =
    let lt : cell < length counts = at_member (λ c. c < length counts)
    (items ++ cell ∷ []) cell t.inside (Contains-push items cell) in
    (lt, (let a = t.counted cell lt in let b = times_same cell items in omega arith))

-- what the count says
pub tally_has : (items counts : List ℕ) (cell : ℕ) → IsTally (tally items counts) → cell < length counts
    → IsTrue (nat_lt 0 (slice_index counts cell)) ↔ Contains items cell
tally_has items counts cell t h = (
  λ b. (let lt = ltb-true 0 (slice_index counts cell) b in let a = t.counted cell h in
      times_has cell items (omega arith)),
  λ c. (let p = has_times cell items c in let a = t.counted cell h in yes (slice_index counts cell) (omega arith)),
) where
  yes : (n : ℕ) → 0 < n → IsTrue (nat_lt 0 n)
  yes n p = grind (arith, nat_tests)
