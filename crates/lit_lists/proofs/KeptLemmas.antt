-- The cells of a list that are marked.
use Rattle.std.proofs.Common.{◌≡◌, ℕ, Bool, cond, IsTrue, List, [], ◌∷◌, Contains, sym, ap, subst, ◌∙◌}
use Rattle.std.proofs.Common.{inl, inr, arith}
use Rattle.std.specs.Prelude.{◌↔◌, filter}
use Rattle.std.proofs.lemmas.Bool.{cases_Bool, true≢false}
use Rattle.std.proofs.lemmas.List.Elements.{Contains-append_left, Contains-append_right, Contains-push}
use Rattle.lit_lists.proofs.TakeLemmas.{cons_cases}

-- what is kept is in the list and passes the test
kept_from : (test : ℕ → Bool) (xs : List ℕ) (y : ℕ) → Contains (filter test xs) y → Contains xs y × IsTrue (test y)
kept_from test [] y h = absurd (omega (arith, h.1))
kept_from test (x ∷ xs) y h = elim (cases_Bool (test x)) [
  | inl passing ↦ (let whole : filter test (x ∷ xs) ≡ x ∷ filter test xs =
      ap (λ (b : Bool). cond b (x ∷ filter test xs) (filter test xs)) passing in
      elim (cons_cases x (filter test xs) y (subst (λ (l : List ℕ). Contains l y) whole h)) [
        | inl e ↦ (
          subst (Contains (x ∷ xs)) e (Contains-append_left (x ∷ []) xs x (Contains-push [] x)),
          ap test (sym e) ∙ passing,
        )
        | inr more ↦ (let b = kept_from test xs y more in (Contains-append_right (x ∷ []) xs y b.0, b.1))
      ])
  | inr failing ↦ (let whole : filter test (x ∷ xs) ≡ filter test xs =
      ap (λ (b : Bool). cond b (x ∷ filter test xs) (filter test xs)) failing in
      let b = kept_from test xs y (subst (λ (l : List ℕ). Contains l y) whole h) in
      (Contains-append_right (x ∷ []) xs y b.0, b.1))
]

-- what is in the list and passes the test is kept
kept_to : (test : ℕ → Bool) (xs : List ℕ) (y : ℕ) → Contains xs y → IsTrue (test y) → Contains (filter test xs) y
kept_to test [] y h passes = absurd (omega (arith, h.1))
kept_to test (x ∷ xs) y h passes = elim (cases_Bool (test x)) [
  | inl passing ↦ (let whole : filter test (x ∷ xs) ≡ x ∷ filter test xs =
      ap (λ (b : Bool). cond b (x ∷ filter test xs) (filter test xs)) passing in
      subst (λ (l : List ℕ). Contains l y) (sym whole) (elim (cons_cases x xs y h) [
        | inl e ↦ subst (Contains (x ∷ filter test xs)) e
            (Contains-append_left (x ∷ []) (filter test xs) x (Contains-push [] x))
        | inr more ↦ Contains-append_right (x ∷ []) (filter test xs) y (kept_to test xs y more passes)
      ]))
  | inr failing ↦ (let whole : filter test (x ∷ xs) ≡ filter test xs =
      ap (λ (b : Bool). cond b (x ∷ filter test xs) (filter test xs)) failing in
      subst (λ (l : List ℕ). Contains l y) (sym whole) (elim (cons_cases x xs y h) [
        | inl e ↦ absurd (true≢false (sym passes ∙ ap test (sym e) ∙ failing))
        | inr more ↦ kept_to test xs y more passes
      ]))
]

-- the list keeps what is in it and passes the test
pub kept : (test : ℕ → Bool) (xs : List ℕ) (y : ℕ) → Contains (filter test xs) y ↔ (Contains xs y × IsTrue (test y))
kept test xs y = (kept_from test xs y, λ b. kept_to test xs y b.0 b.1)
