-- Lists in order: distinct numbers have one order, and a tree with ordered leaves is as good.
use Rattle.std.proofs.Common.{◌≡◌, ◌≢◌, ℕ, zero, suc, ◌+◌, ◌<◌, ◌≤◌, Bool, true, false, nat_le, List, [], ◌∷◌, length}
use Rattle.std.proofs.Common.{slice_index, Contains, refl, sym, ap, subst, ◌∙◌, arith, inl, inr, ◌⊎◌}
use Rattle.std.specs.Prelude.{if◌then◌else◌}
use Rattle.std.specs.List.Sorted.{IsStrictlyIncreasing}
use Rattle.std.proofs.lemmas.Bool.Decides.{nat_tests}
use Rattle.set_cover.proofs.OrderLemmas.{element_at, rises}
use Rattle.cave_model.specs.Plan.{AreDistinct}
use Rattle.proof_rules.proofs.ListLemmas.{no_member, cons_cases, later, here, distinct_head, distinct_tail}
use Rattle.proof_tree.specs.Order.{placed, in_order}

-- each number is less than those after it
abbrev pub Rises : List ℕ → Type 0
Rises [] = Unit {0}
Rises (x ∷ xs) = ((y : ℕ) → Contains xs y → x < y) × Rises xs

-- ---- between the two ways to say it

-- what follows the first of increasing numbers increases
increasing_tail : (x : ℕ) (xs : List ℕ) → IsStrictlyIncreasing (x ∷ xs) → IsStrictlyIncreasing xs
increasing_tail x xs up = λ k h. (let e : suc k + 1 ≡ suc (k + 1) = omega arith in
    subst (λ (n : ℕ). slice_index (x ∷ xs) (suc k) < slice_index (x ∷ xs) n) e (up (suc k) (omega (arith, h))))

-- the first of increasing numbers is below the others
increasing_head : (x : ℕ) (xs : List ℕ) → IsStrictlyIncreasing (x ∷ xs) → (y : ℕ) → Contains xs y → x < y
increasing_head x xs up y has =
    let less = rises (x ∷ xs) up 0 (suc has.0) (omega arith) (omega (arith, has.1)) in
    subst (λ (n : ℕ). x < n) (element_at xs y has) less

-- numbers that increase rise
pub rises_from : (xs : List ℕ) → IsStrictlyIncreasing xs → Rises xs
rises_from [] up = tt
rises_from (x ∷ xs) up = (increasing_head x xs up, rises_from xs (increasing_tail x xs up))

-- a number below the first of increasing ones may go before them
increasing_cons : (x y : ℕ) (ys : List ℕ) → x < y → IsStrictlyIncreasing (y ∷ ys) → IsStrictlyIncreasing (x ∷ y ∷ ys)
increasing_cons x y ys lt up zero h = lt
increasing_cons x y ys lt up (suc k) h =
    let e : suc (k + 1) ≡ suc k + 1 = omega arith in
    subst (λ (n : ℕ). slice_index (x ∷ y ∷ ys) (suc k) < slice_index (x ∷ y ∷ ys) n) e (up k (omega (arith, h)))

-- numbers that rise increase
pub from_rises : (xs : List ℕ) → Rises xs → IsStrictlyIncreasing xs
from_rises [] r = λ k h. absurd (omega arith)
from_rises (x ∷ []) r = λ k h. absurd (omega arith)
from_rises (x ∷ y ∷ ys) r = increasing_cons x y ys (r.0 y (here y ys)) (from_rises (y ∷ ys) r.1)

-- ---- one order alone

-- a number below all of a list isn't in it
not_before : (x : ℕ) (xs : List ℕ) → ((y : ℕ) → Contains xs y → x < y) → ¬ Contains xs x
not_before x xs less has = (let lt = less x has in omega arith)

-- two lists that rise and have the same numbers are the same
pub one_order : (xs ys : List ℕ) → Rises xs → Rises ys → ((y : ℕ) → Contains xs y → Contains ys y)
    → ((y : ℕ) → Contains ys y → Contains xs y) → xs ≡ ys
one_order [] [] r s there back = refl
one_order [] (y ∷ ys) r s there back = no_member y (back y (here y ys))
one_order (x ∷ xs) [] r s there back = no_member x (there x (here x xs))
one_order (x ∷ xs) (y ∷ ys) r s there back =
    let same : x ≡ y = first (cons_cases y ys x (there x (here x xs))) (cons_cases x xs y (back y (here y ys))) in
    let rest : xs ≡ ys = one_order xs ys r.1 s.1
    (λ z h. elim (cons_cases y ys z (there z (later x xs z h))) [
      | inl e ↦ absurd (let lt = r.0 z h in omega arith)
      | inr h ↦ h
    ])
    (λ z h. elim (cons_cases x xs z (back z (later y ys z h))) [
      | inl e ↦ absurd (let lt = s.0 z h in omega arith)
      | inr h ↦ h
    ]) in
    cc
  where
    first : (y ≡ x) ⊎ Contains ys x → (x ≡ y) ⊎ Contains xs y → x ≡ y
    first (inl e) q = sym e
    first (inr h) (inl e) = e
    first (inr h) (inr g) = absurd (let lt = s.0 x h in let gt = r.0 y g in omega arith)

-- ---- a list in order

-- a choice is its first part where the condition holds, and else its second
if_cases : {A : Type 0} (t : Bool) (a b : A) → ((t ≡ true) × ((if t then a else b) ≡ a))
    ⊎ ((t ≡ false) × ((if t then a else b) ≡ b))
if_cases true a b = inl (refl, refl)
if_cases false a b = inr (refl, refl)

-- the number is among those that it was placed among, and no other is new
pub has_placed : (x : ℕ) (ys : List ℕ) (z : ℕ) → Contains (placed x ys) z → (x ≡ z) ⊎ Contains ys z
has_placed x [] z h = cons_cases x [] z h
has_placed x (y ∷ ys) z h = elim (if_cases (nat_le x y) (x ∷ y ∷ ys) (y ∷ placed x ys)) [
  | inl t ↦ cons_cases x (y ∷ ys) z (subst (λ (l : List ℕ). Contains l z) t.1 h)
  | inr f ↦ elim (cons_cases y (placed x ys) z (subst (λ (l : List ℕ). Contains l z) f.1 h)) [
    | inl e ↦ inr (subst (Contains (y ∷ ys)) e (here y ys))
    | inr more ↦ elim (has_placed x ys z more) [
      | inl e ↦ inl e
      | inr more ↦ inr (later y ys z more)
    ]
  ]
]

-- a list into which a number was placed has that number and its own
pub placed_has : (x : ℕ) (ys : List ℕ) (z : ℕ) → (x ≡ z) ⊎ Contains ys z → Contains (placed x ys) z
placed_has x [] z (inl e) = subst (Contains (x ∷ [])) e (here x [])
placed_has x [] z (inr h) = no_member z h
placed_has x (y ∷ ys) z is = elim (if_cases (nat_le x y) (x ∷ y ∷ ys) (y ∷ placed x ys)) [
  | inl t ↦ subst (λ (l : List ℕ). Contains l z) (sym t.1) (elim is [
    | inl e ↦ subst (Contains (x ∷ y ∷ ys)) e (here x (y ∷ ys))
    | inr h ↦ later x (y ∷ ys) z h
  ])
  | inr f ↦ subst (λ (l : List ℕ). Contains l z) (sym f.1) (elim is [
    | inl e ↦ later y (placed x ys) z (placed_has x ys z (inl e))
    | inr h ↦ elim (cons_cases y ys z h) [
      | inl e ↦ subst (Contains (y ∷ placed x ys)) e (here y (placed x ys))
      | inr h ↦ later y (placed x ys) z (placed_has x ys z (inr h))
    ]
  ])
]

-- a new number placed into numbers that rise leaves them rising
placed_rises : (x : ℕ) (ys : List ℕ) → Rises ys → (¬ Contains ys x) → Rises (placed x ys)
placed_rises x [] r new = ((λ y h. no_member y h), tt)
placed_rises x (y ∷ ys) r new = elim (if_cases (nat_le x y) (x ∷ y ∷ ys) (y ∷ placed x ys)) [
  | inl t ↦ subst Rises (sym t.1) (
    (λ z h. elim (cons_cases y ys z h) [
      | inl e ↦ (let le : x ≤ y = grind (arith, nat_tests, t.0) in let ne : x ≢ y =
          λ same. new (subst (Contains (y ∷ ys)) (sym same) (here y ys)) in omega (arith, le, ne, e))
      | inr h ↦ (let le : x ≤ y = grind (arith, nat_tests, t.0) in let lt = r.0 z h in omega arith)
    ]),
    r,
  )
  | inr f ↦ subst Rises (sym f.1) (
    (λ z h. elim (has_placed x ys z h) [
      | inl e ↦ (let gt : y < x = grind (arith, nat_tests, f.0) in omega (arith, gt, e))
      | inr h ↦ r.0 z h
    ]),
    placed_rises x ys r.1 (λ h. new (later y ys x h)),
  )
]

-- an ordered list has numbers of the list alone
pub has_ordered : (xs : List ℕ) (z : ℕ) → Contains (in_order xs) z → Contains xs z
has_ordered [] z h = h
has_ordered (x ∷ xs) z h = elim (has_placed x (in_order xs) z h) [
  | inl e ↦ subst (Contains (x ∷ xs)) e (here x xs)
  | inr h ↦ later x xs z (has_ordered xs z h)
]

-- an ordered list has each number of the list
pub ordered_has : (xs : List ℕ) (z : ℕ) → Contains xs z → Contains (in_order xs) z
ordered_has [] z h = h
ordered_has (x ∷ xs) z h = elim (cons_cases x xs z h) [
  | inl e ↦ placed_has x (in_order xs) z (inl e)
  | inr h ↦ placed_has x (in_order xs) z (inr (ordered_has xs z h))
]

-- distinct numbers, ordered, rise
pub order_rises : (xs : List ℕ) → AreDistinct xs → Rises (in_order xs)
order_rises [] d = tt
order_rises (x ∷ xs) d = placed_rises x (in_order xs) (order_rises xs (distinct_tail x xs d))
    (λ h. distinct_head x xs d (has_ordered xs x h))

-- one more number is in a list into which one was placed
length_placed : (x : ℕ) (ys : List ℕ) → length (placed x ys) ≡ suc (length ys)
length_placed x [] = refl
length_placed x (y ∷ ys) = elim (if_cases (nat_le x y) (x ∷ y ∷ ys) (y ∷ placed x ys)) [
  | inl t ↦ ap length t.1
  | inr f ↦ ap length f.1 ∙ ap suc (length_placed x ys)
]

-- an ordered list is as long
pub length_ordered : (xs : List ℕ) → length (in_order xs) ≡ length xs
length_ordered [] = refl
length_ordered (x ∷ xs) = length_placed x (in_order xs) ∙ ap suc (length_ordered xs)

-- what rises and has the numbers of a list of distinct ones is that list in order
pub order_is : (xs ys : List ℕ) → AreDistinct xs → IsStrictlyIncreasing ys → ((y : ℕ) → Contains xs y → Contains ys y)
    → ((y : ℕ) → Contains ys y → Contains xs y) → ys ≡ in_order xs
order_is xs ys d up there back = one_order ys (in_order xs) (rises_from ys up) (order_rises xs d)
    (λ y h. ordered_has xs y (back y h)) (λ y h. there y (has_ordered xs y h))
