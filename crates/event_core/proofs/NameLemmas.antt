-- Names, and lists told apart.
use Rattle.std.proofs.Common.{◌≡◌, ◌≢◌, ◌⊎◌, inl, inr, ℕ, zero, suc, ◌<◌, List, [], ◌∷◌, ◌++◌, length, refl, sym, ap}
use Rattle.std.proofs.Common.{subst, arith, length-append, Contains}
use Rattle.std.specs.Prelude.{take, slice_index}
use Rattle.std.proofs.lemmas.Bool.{cases_eq}
use Rattle.proof_rules.proofs.ListLemmas.{no_member, cons_cases, has_or_not}

abbrev pub head_of : ℕ → List ℕ → ℕ
head_of d [] = d
head_of d (x ∷ xs) = x

abbrev pub tail_of : List ℕ → List ℕ
tail_of [] = []
tail_of (x ∷ xs) = xs

-- equal lists have equal heads
pub heads : (x y : ℕ) (xs ys : List ℕ) → x ∷ xs ≡ y ∷ ys → x ≡ y
heads x y xs ys e = ap (head_of 0) e

-- and equal tails
pub tails : (x y : ℕ) (xs ys : List ℕ) → x ∷ xs ≡ y ∷ ys → xs ≡ ys
tails x y xs ys e = ap tail_of e

-- the empty list is no other
pub nil_or_cons : {A : Type 0} (x : ℕ) (xs : List ℕ) → [] ≡ x ∷ xs → A
nil_or_cons x xs e = (let l = ap length e in absurd (omega arith))

-- two names are equal or not
pub same_or_not : (xs ys : List ℕ) → (xs ≡ ys) ⊎ (xs ≢ ys)
same_or_not [] [] = inl refl
same_or_not [] (y ∷ ys) = inr (λ e. nil_or_cons y ys e)
same_or_not (x ∷ xs) [] = inr (λ e. nil_or_cons x xs (sym e))
same_or_not (x ∷ xs) (y ∷ ys) = elim (cases_eq x y) [
  | inl e ↦ elim (same_or_not xs ys) [
    | inl f ↦ inl cc
    | inr ne ↦ inr (λ f. ne (tails x y xs ys f))
  ]
  | inr ne ↦ inr (λ f. ne (heads x y xs ys f))
]

-- what follows a name stays
pub after_same : (name xs ys : List ℕ) → name ++ xs ≡ name ++ ys → xs ≡ ys
after_same [] xs ys e = e
after_same (n ∷ ns) xs ys e = after_same ns xs ys (tails n n (ns ++ xs) (ns ++ ys) e)

-- what follows a name that is already the whole is empty
pub none_after : (name rest : List ℕ) → name ≡ name ++ rest → rest ≡ []
none_after [] rest e = sym e
none_after (n ∷ ns) rest e = none_after ns rest (tails n n ns (ns ++ rest) e)

-- the parent's name, and the kid's number
pub record AreSameKid (xs ys : List ℕ) (x y : ℕ) : Type 0 where
  pub parent : xs ≡ ys
  pub number : x ≡ y

-- equal names of kids have one parent and one number
pub same_kid : (xs ys : List ℕ) (x y : ℕ) → xs ++ x ∷ [] ≡ ys ++ y ∷ [] → AreSameKid xs ys x y
same_kid [] [] x y e = record { parent = refl; number = heads x y [] [] e }
same_kid [] (b ∷ vs) x y e = (let l = ap length e in let m = length-append vs (y ∷ []) in absurd (omega arith))
same_kid (a ∷ us) [] x y e = (let l = ap length e in let m = length-append us (x ∷ []) in absurd (omega arith))
same_kid (a ∷ us) (b ∷ vs) x y e =
    let h : a ≡ b = heads a b (us ++ x ∷ []) (vs ++ y ∷ []) e in
    let r = same_kid us vs x y (tails a b (us ++ x ∷ []) (vs ++ y ∷ []) e) in
    let p : us ≡ vs = r.parent in
    record { parent = cc; number = r.number }

-- a kid isn't its parent
pub kid_other : (name : List ℕ) (number : ℕ) → name ++ number ∷ [] ≢ name
kid_other name number e = nil_or_cons number [] (sym (none_after name (number ∷ []) (sym e)))

-- the name begins so, or it doesn't
pub begins_or_not : (name other : List ℕ)
    → ((rest : List ℕ) × (other ≡ name ++ rest)) ⊎ ((rest : List ℕ) → other ≢ name ++ rest)
begins_or_not [] other = inl (other, refl)
begins_or_not (n ∷ ns) [] = inr (λ rest e. nil_or_cons n (ns ++ rest) e)
begins_or_not (n ∷ ns) (o ∷ os) = elim (cases_eq o n) [
  | inl e ↦ elim (begins_or_not ns os) [
    | inl b ↦ inl (b.0, (let f = b.1 in cc))
    | inr ne ↦ inr (λ rest f. ne rest (tails o n os (ns ++ rest) f))
  ]
  | inr ne ↦ inr (λ rest f. ne (heads o n os (ns ++ rest) f))
]

-- it is one of the first kids, or it isn't
pub kid_or_not : (name other : List ℕ) (count : ℕ)
    → ((number : ℕ) × (number < count) × (other ≡ name ++ number ∷ []))
    ⊎ ((number : ℕ) → number < count → other ≢ name ++ number ∷ [])
kid_or_not name other zero = inr (λ number lt. absurd (omega arith))
kid_or_not name other (suc count) = elim (same_or_not other (name ++ count ∷ [])) [
  | inl e ↦ inl (count, omega arith, e)
  | inr ne ↦ elim (kid_or_not name other count) [
    | inl k ↦ inl (k.0, (let lt = k.1 in omega arith), k.2)
    | inr none_of ↦ inr (λ number lt. elim (cases_eq number count) [
      | inl e ↦ subst (λ (n : ℕ). other ≢ name ++ n ∷ []) (sym e) ne
      | inr other_number ↦ none_of number (omega arith)
    ])
  ]
]

-- the first of the numbers that stands in the other list
pub record IsFirstIn (xs others : List ℕ) (index : ℕ) : Type 0 where
  pub inside : index < length xs
  pub there : Contains others (slice_index xs index)
  pub new : (x : ℕ) → Contains (take index xs) x → ¬ Contains others x

-- of numbers of which one stands in another list, there is a first that does
pub first_in : (xs others : List ℕ) (y : ℕ) → Contains xs y → Contains others y
    → (index : ℕ) × IsFirstIn xs others index
first_in [] others y h g = no_member y h
first_in (x ∷ xs) others y h g = elim (has_or_not others x) [
  | inl here ↦ (0, record { inside = omega arith; there = here; new = λ z none_of. no_member z none_of })
  | inr absent ↦ elim (cons_cases x xs y h) [
    | inl e ↦ absurd (absent (subst (Contains others) (sym e) g))
    | inr later ↦ (let f = first_in xs others y later g in (
      suc f.0,
      record {
        inside = (let lt = f.1.inside in omega arith);
        there = f.1.there;
        new = λ z in_front. elim (cons_cases x (take f.0 xs) z in_front) [
          | inl e ↦ subst (λ (w : ℕ). ¬ Contains others w) e absent
          | inr rest ↦ f.1.new z rest
        ];
      },
    ))
  ]
]
