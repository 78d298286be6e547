-- What is left where some cells are left out.
use Rattle.std.proofs.Common.{◌≡◌, ℕ, List, [], ◌∷◌, ◌++◌, Contains, inl, inr, refl, sym, ap, subst, ◌⊎◌, ◌∙◌}
use Rattle.std.specs.Prelude.{Bool, true, false, ◌||◌, ◌==◌}
use Rattle.std.proofs.lemmas.Bool.{eqb-true, eq-eqb}
use Rattle.proof_rules.specs.Omitted.{is_among, left_without}
use Rattle.proof_rules.proofs.ListLemmas.{no_member, cons_cases, later, here}

-- ---- tests

-- a test holds or doesn't
pub bool_cases : (b : Bool) → (b ≡ true) ⊎ (b ≡ false)
bool_cases true = inl refl
bool_cases false = inr refl

or_left : (a b : Bool) → a ≡ true → (a || b) ≡ true
or_left true b h = refl
or_left false b h = absurd (cc)

or_right : (a b : Bool) → b ≡ true → (a || b) ≡ true
or_right true b h = refl
or_right false b h = h

or_cases : (a b : Bool) → (a || b) ≡ true → (a ≡ true) ⊎ (b ≡ true)
or_cases true b h = inl refl
or_cases false b h = inr h

or_assoc : (a b c : Bool) → ((a || b) || c) ≡ (a || (b || c))
or_assoc true b c = refl
or_assoc false b c = refl

-- one of these is found among them
pub among : (these : List ℕ) (cell : ℕ) → Contains these cell → is_among these cell ≡ true
among [] cell h = no_member cell h
among (this ∷ these) cell h = elim (cons_cases this these cell h) [
  | inl e ↦ or_left (this == cell) (is_among these cell) (eq-eqb this cell e)
  | inr h ↦ or_right (this == cell) (is_among these cell) (among these cell h)
]

-- what is found among them is one of these
pub is_one : (these : List ℕ) (cell : ℕ) → is_among these cell ≡ true → Contains these cell
is_one [] cell h = absurd (cc)
is_one (this ∷ these) cell h = elim (or_cases (this == cell) (is_among these cell) h) [
  | inl e ↦ subst (Contains (this ∷ these)) (eqb-true this cell e) (here this these)
  | inr h ↦ later this these cell (is_one these cell h)
]

-- what is found among two lists is found among one of them
is_among-append : (these others : List ℕ) (cell : ℕ) → is_among (these ++ others) cell
    ≡ (is_among these cell || is_among others cell)
is_among-append [] others cell = refl
is_among-append (this ∷ these) others cell =
    ap (λ (b : Bool). (this == cell) || b) (is_among-append these others cell)
    ∙ sym (or_assoc (this == cell) (is_among these cell) (is_among others cell))

-- ---- what is left

-- the first cell is left out where it is one of these
left_out : (these cells : List ℕ) (c : ℕ) → is_among these c ≡ true → left_without these (c ∷ cells)
    ≡ left_without these cells
left_out these cells c e = rw e refl

-- and else is left
left_in : (these cells : List ℕ) (c : ℕ) → is_among these c ≡ false → left_without these (c ∷ cells)
    ≡ c ∷ left_without these cells
left_in these cells c e = rw e refl

-- what is left is one of the cells
pub left_from : (these cells : List ℕ) (cell : ℕ) → Contains (left_without these cells) cell → Contains cells cell
left_from these [] cell h = h
left_from these (c ∷ cells) cell h = elim (bool_cases (is_among these c)) [
  | inl e ↦ later c cells cell
      (left_from these cells cell (subst (λ (l : List ℕ). Contains l cell) (left_out these cells c e) h))
  | inr e ↦ elim (cons_cases c (left_without these cells) cell
      (subst (λ (l : List ℕ). Contains l cell) (left_in these cells c e) h)) [
        | inl f ↦ subst (Contains (c ∷ cells)) f (here c cells)
        | inr h ↦ later c cells cell (left_from these cells cell h)
      ]
]

-- and none of these
pub left_is_other : (these cells : List ℕ) (cell : ℕ) → Contains (left_without these cells) cell → ¬ Contains these cell
left_is_other these [] cell h = no_member cell h
left_is_other these (c ∷ cells) cell h = elim (bool_cases (is_among these c)) [
  | inl e ↦ left_is_other these cells cell (subst (λ (l : List ℕ). Contains l cell) (left_out these cells c e) h)
  | inr e ↦ elim (cons_cases c (left_without these cells) cell
      (subst (λ (l : List ℕ). Contains l cell) (left_in these cells c e) h)) [
        | inl f ↦ (λ g. let t : is_among these c ≡ true = among these c (subst (Contains these) (sym f) g) in
            absurd (cc))
        | inr h ↦ left_is_other these cells cell h
      ]
]

-- each of the cells that is none of these is left
pub other_is_left : (these cells : List ℕ) (cell : ℕ) → Contains cells cell → (¬ Contains these cell)
    → Contains (left_without these cells) cell
other_is_left these [] cell h ne = h
other_is_left these (c ∷ cells) cell h ne = elim (bool_cases (is_among these c)) [
  | inl e ↦ elim (cons_cases c cells cell h) [
    | inl f ↦ absurd (ne (subst (Contains these) f (is_one these c e)))
    | inr h ↦ subst (λ (l : List ℕ). Contains l cell) (sym (left_out these cells c e))
        (other_is_left these cells cell h ne)
  ]
  | inr e ↦ subst (λ (l : List ℕ). Contains l cell) (sym (left_in these cells c e))
      (elim (cons_cases c cells cell h) [
        | inl f ↦ subst (Contains (c ∷ left_without these cells)) f (here c (left_without these cells))
        | inr h ↦ later c (left_without these cells) cell (other_is_left these cells cell h ne)
      ])
]

-- leaving out more is leaving it out of what is left
pub left_without-append : (these others cells : List ℕ) → left_without (these ++ others) cells
    ≡ left_without others (left_without these cells)
left_without-append these others [] = refl
left_without-append these others (c ∷ cells) =
    let rest = left_without-append these others cells in
    let both = is_among-append these others c in
    elim (bool_cases (is_among these c)) [
      | inl e ↦ (let t : is_among (these ++ others) c ≡ true =
          both ∙ or_left (is_among these c) (is_among others c) e in
          left_out (these ++ others) cells c t ∙ rest ∙ ap (left_without others) (sym (left_out these cells c e)))
      | inr e ↦ elim (bool_cases (is_among others c)) [
        | inl f ↦ (let t : is_among (these ++ others) c ≡ true =
            both ∙ or_right (is_among these c) (is_among others c) f in
            left_out (these ++ others) cells c t ∙ rest
            ∙ sym (left_out others (left_without these cells) c f)
            ∙ ap (left_without others) (sym (left_in these cells c e)))
        | inr f ↦ (let t : is_among (these ++ others) c ≡ false = both ∙ rw (e, f) refl in
            left_in (these ++ others) cells c t ∙ ap (λ (l : List ℕ). c ∷ l) rest
            ∙ sym (left_in others (left_without these cells) c f)
            ∙ ap (left_without others) (sym (left_in these cells c e)))
      ]
    ]

-- leaving nothing out leaves all
pub left_without-nil : (cells : List ℕ) → left_without [] cells ≡ cells
left_without-nil [] = refl
left_without-nil (c ∷ cells) = ap (λ (l : List ℕ). c ∷ l) (left_without-nil cells)
