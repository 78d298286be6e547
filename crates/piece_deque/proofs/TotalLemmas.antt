-- What passes add up to, after one of them changed.
use Rattle.std.proofs.Common.{◌≡◌, ◌≢◌, ℕ, zero, suc, ◌+◌, ◌≤◌, Bool, true, false, List, [], ◌∷◌, ◌++◌, set}
use Rattle.std.proofs.Common.{refl, sym, ap, arith}
use mathlib.Core.Option.{some, some-ne-none, some-injective}
use lib.ListN.{get_elem?}
use Rattle.proof_tree.specs.Piece.{Subproblem}
use Rattle.proof_tree.specs.Weights.{weigh}
use Rattle.piece_deque.specs.declared.dealt.Dealt.{Dealt}
use Rattle.piece_deque.specs.Rule.{passes_total}

-- a pass changed at its place changes the total by the difference
pub total_set : (f : Dealt → ℕ) (passes : List Dealt) (i : ℕ) (v w : Dealt) → get_elem? passes i ≡ some v
    → passes_total f (set passes i w) + f v ≡ passes_total f passes + f w
total_set f [] i v w e = absurd (some-ne-none v (sym e))
total_set f (x ∷ xs) zero v w e = let same : f x ≡ f v = ap f (some-injective x v e) in omega arith
total_set f (x ∷ xs) (suc i) v w e = omega (arith, total_set f xs i v w e)

-- a pass more adds its number
pub total_snoc : (f : Dealt → ℕ) (passes : List Dealt) (w : Dealt)
    → passes_total f (passes ++ w ∷ []) ≡ passes_total f passes + f w
total_snoc f [] w = omega arith
total_snoc f (x ∷ xs) w = omega (arith, total_snoc f xs w)

-- one pass has at most the total
total_one : (f : Dealt → ℕ) (passes : List Dealt) (i : ℕ) (v : Dealt) → get_elem? passes i ≡ some v
    → f v ≤ passes_total f passes
total_one f [] i v e = absurd (some-ne-none v (sym e))
total_one f (x ∷ xs) zero v e = let same : f x ≡ f v = ap f (some-injective x v e) in omega arith
total_one f (x ∷ xs) (suc i) v e = omega (arith, total_one f xs i v e)

-- and so do two
pub total_two : (f : Dealt → ℕ) (passes : List Dealt) (i j : ℕ) (v u : Dealt) → j ≢ i
    → get_elem? passes i ≡ some v → get_elem? passes j ≡ some u → f v + f u ≤ passes_total f passes
total_two f [] i j v u apart e k = absurd (some-ne-none v (sym e))
total_two f (x ∷ xs) zero zero v u apart e k = absurd (apart refl)
total_two f (x ∷ xs) zero (suc j) v u apart e k =
    let same : f x ≡ f v = ap f (some-injective x v e) in omega (arith, total_one f xs j u k)
total_two f (x ∷ xs) (suc i) zero v u apart e k =
    let same : f x ≡ f u = ap f (some-injective x u k) in omega (arith, total_one f xs i v e)
total_two f (x ∷ xs) (suc i) (suc j) v u apart e k =
    omega (arith, total_two f xs i j v u (λ p. apart (ap suc p)) e k)

-- passes with nothing add up to nothing
total_none : (f : Dealt → ℕ) (passes : List Dealt)
    → ((j : ℕ) (u : Dealt) → get_elem? passes j ≡ some u → f u ≡ 0) → passes_total f passes ≡ 0
total_none f [] none = refl
total_none f (x ∷ xs) none =
    let here : f x ≡ 0 = none 0 x refl in omega (arith, total_none f xs (λ j u e. none (suc j) u e))

-- where all passes but one count nothing
pub total_only : (f : Dealt → ℕ) (passes : List Dealt) (i : ℕ) (v : Dealt) → get_elem? passes i ≡ some v
    → ((j : ℕ) (u : Dealt) → j ≢ i → get_elem? passes j ≡ some u → f u ≡ 0) → passes_total f passes ≡ f v
total_only f [] i v e none = absurd (some-ne-none v (sym e))
total_only f (x ∷ xs) zero v e none =
    let same : f x ≡ f v = ap f (some-injective x v e) in
    omega (arith, total_none f xs (λ j u k. none (suc j) u (λ p. let q : suc j ≡ 0 = p in omega arith) k))
total_only f (x ∷ xs) (suc i) v e none =
    let here : f x ≡ 0 = none 0 x (λ p. let q : 0 ≡ suc i = p in omega arith) refl in
    omega (
      arith,
      total_only f xs i v e (λ j u apart k. none (suc j) u
          (λ p. apart (let q : suc j ≡ suc i = p in omega arith)) k),
    )

-- two lists of pieces weigh together what both weigh
pub weigh_append : (weight : Subproblem → ℕ) (xs ys : List Subproblem)
    → weigh weight (xs ++ ys) ≡ weigh weight xs + weigh weight ys
weigh_append weight [] ys = omega arith
weigh_append weight (x ∷ xs) ys = omega (arith, weigh_append weight xs ys)

-- what a pass pushed weighs
abbrev pub pushed_weight : (Subproblem → ℕ) → Dealt → ℕ
pushed_weight weight pass = weigh weight pass.pushed

-- what a pass took weighs
abbrev pub taken_weight : (Subproblem → ℕ) → Dealt → ℕ
taken_weight weight pass = weigh weight pass.taken

-- a flag that can't be set is unset
pub false_of : (b : Bool) → (b ≡ true → ⊥) → b ≡ false
false_of true h = absurd (h refl)
false_of false h = refl

-- a flag that can't be unset is set
pub true_of : (b : Bool) → (b ≡ false → ⊥) → b ≡ true
true_of true h = refl
true_of false h = absurd (h refl)
