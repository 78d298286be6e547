-- Lists of distinct numbers.
use Rattle.std.proofs.Common.{◌≡◌, ◌≢◌, ℕ, suc, ◌<◌, ◌≤◌, List, [], ◌∷◌, ◌++◌, length, All, Contains, sym, subst, ◌∙◌}
use Rattle.std.proofs.Common.{arith, ◌⊎◌, inl, inr}
use Rattle.std.proofs.lemmas.Bool.{cases_eq}
use Rattle.std.proofs.lemmas.List.Elements.{All-cons, Contains-append_cases, Contains-append_left}
use Rattle.std.proofs.lemmas.List.Elements.{Contains-append_right, Contains-push_cases, Contains-push}
use Rattle.std.proofs.lemmas.List.Kept.{AllPairs-cons}
use Rattle.cave_model.specs.Plan.{AreDistinct}

-- no number is in the empty list
pub no_member : {A : Type 0} (y : ℕ) → Contains [] y → A
no_member y h = absurd (omega (arith, h.1))

-- an element is the first or one of the rest
pub cons_cases : (x : ℕ) (xs : List ℕ) (y : ℕ) → Contains (x ∷ xs) y → (x ≡ y) ⊎ Contains xs y
cons_cases x xs y h = elim (Contains-append_cases (x ∷ []) xs y h) [
  | inl one ↦ elim (Contains-push_cases [] x y one) [
    | inl none ↦ no_member y none
    | inr e ↦ inl e
  ]
  | inr more ↦ inr more
]

-- an element of the rest is one of the list
pub later : (x : ℕ) (xs : List ℕ) (y : ℕ) → Contains xs y → Contains (x ∷ xs) y
later x xs y h = Contains-append_right (x ∷ []) xs y h

-- the first is one of the list
pub here : (x : ℕ) (xs : List ℕ) → Contains (x ∷ xs) x
here x xs = Contains-append_left (x ∷ []) xs x (Contains-push [] x)

-- a number is in a list or not
pub has_or_not : (xs : List ℕ) (y : ℕ) → Contains xs y ⊎ (¬ Contains xs y)
has_or_not [] y = inr (λ h. no_member y h)
has_or_not (x ∷ xs) y = elim (cases_eq x y) [
  | inl e ↦ inl (subst (Contains (x ∷ xs)) e (here x xs))
  | inr ne ↦ elim (has_or_not xs y) [
    | inl h ↦ inl (later x xs y h)
    | inr none ↦ inr (λ h. elim (cons_cases x xs y h) [
      | inl e ↦ ne e
      | inr h ↦ none h
    ])
  ]
]

-- what holds of each element holds of all
pub all_members : (P : ℕ → Type 0) (xs : List ℕ) → ((y : ℕ) → Contains xs y → P y) → All P xs
all_members P [] f = λ k d h. absurd (omega arith)
all_members P (x ∷ xs) f = All-cons P x xs (f x (here x xs)) (all_members P xs (λ y h. f y (later x xs y h)))

-- what holds of all holds of each element
pub at_member : (P : ℕ → Type 0) (xs : List ℕ) (y : ℕ) → All P xs → Contains xs y → P y
at_member P xs y h c = subst P c.2 (h c.0 y c.1)

-- the empty list is distinct
pub distinct_nil : AreDistinct []
distinct_nil = λ i j d lt h. absurd (omega arith)

-- a distinct list stays so with a new element before it
pub distinct_cons : (x : ℕ) (xs : List ℕ) → (¬ Contains xs x) → AreDistinct xs → AreDistinct (x ∷ xs)
distinct_cons x xs new d = AllPairs-cons (λ a b. a ≢ b) x xs
    (all_members (λ y. x ≢ y) xs (λ y h e. new (subst (Contains xs) (sym e) h))) d

-- the rest of a distinct list is distinct
pub distinct_tail : (x : ℕ) (xs : List ℕ) → AreDistinct (x ∷ xs) → AreDistinct xs
distinct_tail x xs d = λ i j e lt h. d (suc i) (suc j) e (omega arith) (omega arith)

-- its first isn't in its rest
pub distinct_head : (x : ℕ) (xs : List ℕ) → AreDistinct (x ∷ xs) → ¬ Contains xs x
distinct_head x xs d c = d 0 (suc c.0) x (omega arith) (omega (arith, c.1)) (sym c.2)

-- two distinct lists that share nothing are distinct together
pub distinct_append : (xs ys : List ℕ) → AreDistinct xs → AreDistinct ys → ((y : ℕ) → Contains xs y → ¬ Contains ys y)
    → AreDistinct (xs ++ ys)
distinct_append [] ys d e apart = e
distinct_append (x ∷ xs) ys d e apart = distinct_cons x (xs ++ ys)
    (λ c. elim (Contains-append_cases xs ys x c) [
      | inl h ↦ distinct_head x xs d h
      | inr h ↦ apart x (here x xs) h
    ])
    (distinct_append xs ys (distinct_tail x xs d) e (λ y h. apart y (later x xs y h)))

-- ---- a list without a number

pub record IsWithout (xs : List ℕ) (y : ℕ) (ys : List ℕ) : Type 0 where
  pub gone : ¬ Contains ys y
  pub kept : (z : ℕ) → z ≢ y → Contains xs z → Contains ys z
  pub from : (z : ℕ) → Contains ys z → Contains xs z
  pub shorter : Contains xs y → length ys < length xs
  pub at_most : length ys ≤ length xs
  pub still : AreDistinct xs → AreDistinct ys

-- each list has a rest without a given number
pub without : (xs : List ℕ) (y : ℕ) → (ys : List ℕ) × IsWithout xs y ys
without [] y = (
  [],
  record {
    gone = λ h. no_member y h;
    kept = λ z ne h. h;
    from = λ z h. h;
    shorter = λ h. no_member y h;
    at_most = omega arith;
    still = λ d. d;
  },
)
without (x ∷ xs) y =
    let w = without xs y in
    elim (cases_eq x y) [
      | inl e ↦ (
        w.0,
        record {
          gone = w.1.gone;
          kept = λ z ne h. elim (cons_cases x xs z h) [
            | inl f ↦ absurd (ne (sym f ∙ e))
            | inr h ↦ w.1.kept z ne h
          ];
          from = λ z h. later x xs z (w.1.from z h);
          shorter = λ h. omega (arith, w.1.at_most);
          at_most = omega (arith, w.1.at_most);
          still = λ d. w.1.still (distinct_tail x xs d);
        },
      )
      | inr ne ↦ (
        x ∷ w.0,
        record {
          gone = λ h. elim (cons_cases x w.0 y h) [
            | inl e ↦ ne e
            | inr h ↦ w.1.gone h
          ];
          kept = λ z nz h. elim (cons_cases x xs z h) [
            | inl f ↦ subst (Contains (x ∷ w.0)) f (here x w.0)
            | inr h ↦ later x w.0 z (w.1.kept z nz h)
          ];
          from = λ z h. elim (cons_cases x w.0 z h) [
            | inl f ↦ subst (Contains (x ∷ xs)) f (here x xs)
            | inr h ↦ later x xs z (w.1.from z h)
          ];
          shorter = λ h. elim (cons_cases x xs y h) [
            | inl e ↦ absurd (ne e)
            | inr h ↦ omega (arith, w.1.shorter h)
          ];
          at_most = omega (arith, w.1.at_most);
          still = λ d. distinct_cons x w.0 (λ h. distinct_head x xs d (w.1.from x h))
              (w.1.still (distinct_tail x xs d));
        },
      )
    ]

-- distinct numbers out of a list are no more than the list has
pub no_more : (xs ys : List ℕ) → AreDistinct xs → ((z : ℕ) → Contains xs z → Contains ys z) → length xs ≤ length ys
no_more [] ys d h = omega arith
no_more (x ∷ xs) ys d h =
    let w = without ys x in
    let le : length xs ≤ length w.0 = no_more xs w.0 (distinct_tail x xs d)
    (λ z c. w.1.kept z (λ e. distinct_head x xs d (subst (Contains xs) e c)) (h z (later x xs z c))) in
    omega (arith, w.1.shorter (h x (here x xs)))
