-- Lists of distinct numbers.
use Rattle.std.proofs.Common.{◌≡◌, ◌≢◌, ℕ, suc, ◌≤◌, List, [], ◌∷◌, ◌++◌, length, Contains, sym, subst, ◌⊎◌, arith}
use Rattle.std.proofs.Common.{inl, inr}
use Rattle.std.specs.Prelude.{AllPairs, remove}
use Rattle.std.proofs.lemmas.List.Kept.{AllPairs-cons}
use Rattle.std.proofs.lemmas.List.Elements.{Contains-get_or, Contains-append_cases, Contains-append_left}
use Rattle.std.proofs.lemmas.List.Elements.{Contains-append_right, Contains-push, Contains-push_cases}
use Rattle.std.proofs.lemmas.List.Sorted.{IsPermutation-remove, Contains-permutation, length_permutation}

-- no number is in the empty list
pub none_in : {A : Type 0} (y : ℕ) → Contains [] y → A
none_in y h = absurd (omega (arith, h.1))

-- an element is the first or one of the rest
pub cons_cases : (x : ℕ) (xs : List ℕ) (y : ℕ) → Contains (x ∷ xs) y → (x ≡ y) ⊎ Contains xs y
cons_cases x xs y h = elim (Contains-append_cases (x ∷ []) xs y h) [
  | inl one ↦ elim (Contains-push_cases [] x y one) [ inl none ↦ none_in y none | inr e ↦ inl e ]
  | inr more ↦ inr more
]

-- an element of the rest is one of the list
pub cons_later : (x : ℕ) (xs : List ℕ) (y : ℕ) → Contains xs y → Contains (x ∷ xs) y
cons_later x xs y h = Contains-append_right (x ∷ []) xs y h

-- the first is one of the list
pub cons_here : (x : ℕ) (xs : List ℕ) → Contains (x ∷ xs) x
cons_here x xs = Contains-append_left (x ∷ []) xs x (Contains-push [] x)

-- distinct numbers stay so with a new one before them
pub once_cons : (x : ℕ) (xs : List ℕ) → (¬ Contains xs x) → AllPairs (λ a b. a ≢ b) xs
    → AllPairs (λ a b. a ≢ b) (x ∷ xs)
once_cons x xs new once = AllPairs-cons (λ a b. a ≢ b) x xs
    (λ k d h e. new (subst (Contains xs) (sym e) (Contains-get_or xs k d h))) once

-- the rest of distinct numbers is distinct
pub once_tail : (x : ℕ) (xs : List ℕ) → AllPairs (λ a b. a ≢ b) (x ∷ xs) → AllPairs (λ a b. a ≢ b) xs
once_tail x xs once = λ i j d lt h. once (suc i) (suc j) d (omega arith) (omega arith)

-- the first of distinct numbers isn't in the rest
pub once_head : (x : ℕ) (xs : List ℕ) → AllPairs (λ a b. a ≢ b) (x ∷ xs) → ¬ Contains xs x
once_head x xs once has = once 0 (suc has.0) x (omega arith) (omega (arith, has.1)) (sym has.2)

-- two distinct lists that share nothing are distinct together
pub once_append : (xs ys : List ℕ) → AllPairs (λ a b. a ≢ b) xs → AllPairs (λ a b. a ≢ b) ys
    → ((y : ℕ) → Contains xs y → ¬ Contains ys y) → AllPairs (λ a b. a ≢ b) (xs ++ ys)
once_append [] ys first second apart = second
once_append (x ∷ xs) ys first second apart = once_cons x (xs ++ ys)
    (λ has. elim (Contains-append_cases xs ys x has) [
      | inl h ↦ once_head x xs first h
      | inr h ↦ apart x (cons_here x xs) h
    ])
    (once_append xs ys (once_tail x xs first) second (λ y h. apart y (cons_later x xs y h)))

-- distinct numbers out of a list are no more than the list has
pub no_more : (xs ys : List ℕ) → AllPairs (λ a b. a ≢ b) xs → ((z : ℕ) → Contains xs z → Contains ys z)
    → length xs ≤ length ys
no_more [] ys once within = omega arith
no_more (x ∷ xs) ys once within =
    let has = within x (cons_here x xs) in
    let moved = IsPermutation-remove ys has.0 x has.1 (sym has.2) in
    let long = length_permutation ys (x ∷ remove ys has.0) moved in
    let rest = no_more xs (remove ys has.0) (once_tail x xs once)
    (λ z h. elim (cons_cases x (remove ys has.0) z
    (Contains-permutation ys (x ∷ remove ys has.0) z moved (within z (cons_later x xs z h)))) [
      | inl e ↦ absurd (once_head x xs once (subst (Contains xs) (sym e) h))
      | inr there ↦ there
    ]) in
    omega arith
