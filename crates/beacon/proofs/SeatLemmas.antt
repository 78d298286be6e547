-- How many seats are unspent, after one of them changed.
use Rattle.std.proofs.Common.{◌≡◌, ◌≢◌, ℕ, zero, suc, ◌+◌, ◌≤◌, false, List, [], ◌∷◌, ◌++◌, set, refl, sym, ap, ◌∙◌}
use Rattle.std.proofs.Common.{arith}
use mathlib.Core.Option.{some, some-ne-none, some-injective}
use lib.ListN.{get_elem?}
use Rattle.beacon.specs.declared.known.Known.{Known}
use Rattle.beacon.specs.Rule.{one_if_unspent, unspent}

-- what a seat counts among the unspent ones
abbrev pub counts : Known → ℕ
counts seat = one_if_unspent seat.spent

-- what was put at a place stands there
pub set_at : (seats : List Known) (id : ℕ) (a b : Known)
    → get_elem? seats id ≡ some a → get_elem? (set seats id b) id ≡ some b
set_at [] id a b e = absurd (some-ne-none a (sym e))
set_at (x ∷ xs) zero a b e = refl
set_at (x ∷ xs) (suc id) a b e = set_at xs id a b e

-- a seat changed at its place changes the number of unspent ones by the difference
pub unspent_set : (seats : List Known) (id : ℕ) (v w : Known) → get_elem? seats id ≡ some v
    → unspent (set seats id w) + counts v ≡ unspent seats + counts w
unspent_set [] id v w e = absurd (some-ne-none v (sym e))
unspent_set (x ∷ xs) zero v w e =
    let same : counts x ≡ counts v = ap counts (some-injective x v e) in omega arith
unspent_set (x ∷ xs) (suc id) v w e = omega (arith, unspent_set xs id v w e)

-- a seat more counts where it is unspent
pub unspent_snoc : (seats : List Known) (w : Known) → unspent (seats ++ w ∷ []) ≡ unspent seats + counts w
unspent_snoc [] w = omega arith
unspent_snoc (x ∷ xs) w = omega (arith, unspent_snoc xs w)

-- an unspent seat makes at least one
unspent_one : (seats : List Known) (id : ℕ) (v : Known)
    → get_elem? seats id ≡ some v → v.spent ≡ false → 1 ≤ unspent seats
unspent_one [] id v e live = absurd (some-ne-none v (sym e))
unspent_one (x ∷ xs) zero v e live =
    let one : counts x ≡ 1 = ap counts (some-injective x v e) ∙ ap one_if_unspent live in omega arith
unspent_one (x ∷ xs) (suc id) v e live = omega (arith, unspent_one xs id v e live)

-- two unspent seats make at least two
pub unspent_two : (seats : List Known) (i j : ℕ) (v u : Known) → j ≢ i
    → get_elem? seats i ≡ some v → v.spent ≡ false
    → get_elem? seats j ≡ some u → u.spent ≡ false → 2 ≤ unspent seats
unspent_two [] i j v u apart e live f live2 = absurd (some-ne-none v (sym e))
unspent_two (x ∷ xs) zero zero v u apart e live f live2 = absurd (apart refl)
unspent_two (x ∷ xs) zero (suc j) v u apart e live f live2 =
    let one : counts x ≡ 1 = ap counts (some-injective x v e) ∙ ap one_if_unspent live in
    omega (arith, unspent_one xs j u f live2)
unspent_two (x ∷ xs) (suc i) zero v u apart e live f live2 =
    let one : counts x ≡ 1 = ap counts (some-injective x u f) ∙ ap one_if_unspent live2 in
    omega (arith, unspent_one xs i v e live)
unspent_two (x ∷ xs) (suc i) (suc j) v u apart e live f live2 =
    omega (arith, unspent_two xs i j v u (λ p. apart (ap suc p)) e live f live2)
