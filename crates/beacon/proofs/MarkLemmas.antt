-- What the word is below stays so, and who told it still has, after a seat changed.
use Rattle.std.proofs.Common.{◌≡◌, ℕ, ◌≤◌, false, List, set, Option, Some, None, sym, ap, ◌∙◌, le_trans, arith}
use mathlib.Core.Option.{some, some-injective}
use native.Mathlib.Decide.{ℕ_discrete}
use lib.ListN.{get_elem?}
use Rattle.atomic_table.proofs.Lists.{set_else}
use Rattle.beacon.specs.declared.known.Known.{Known}
use Rattle.beacon.specs.Marks.{AtLeast, lesser_told}
use Rattle.beacon.specs.Rule.{IsBelow, IsTold}
use Rattle.beacon.proofs.SeatLemmas.{set_at}

-- a smaller number is at most what a greater one is
pub at_least_less : (n m : ℕ) (told : Option ℕ) → n ≤ m → AtLeast m told → AtLeast n told
at_least_less n m None le h = tt
at_least_less n m (Some t) le h = omega arith

-- a number at most either of two is at most the lesser
pub at_least_lesser : (n : ℕ) (x y : Option ℕ) → AtLeast n x → AtLeast n y → AtLeast n (lesser_told x y)
at_least_lesser n None y h k = k
at_least_lesser n (Some x) None h k = h
at_least_lesser n (Some x) (Some y) h k = omega arith

-- the least of all that was told is told by both together
pub lesser_left : (n : ℕ) (x y : Option ℕ) → x ≡ Some n → AtLeast n y → lesser_told x y ≡ Some n
lesser_left n None y is h = absurd (cc)
lesser_left n (Some x) None is h = is
lesser_left n (Some x) (Some y) is h = let same : x ≡ n = cc in ap Some (omega arith)

-- of two told sizes the second is the lesser where it is the least
pub lesser_right : (n : ℕ) (x y : Option ℕ) → y ≡ Some n → AtLeast n x → lesser_told x y ≡ Some n
lesser_right n None y is h = is
lesser_right n (Some x) None is h = absurd (cc)
lesser_right n (Some x) (Some y) is h = let same : y ≡ n = cc in ap Some (omega arith)

-- a number at most what a seat knows stays so when it is lowered
pub below_less : (n m : ℕ) (v : Known) → n ≤ m → IsBelow m v → IsBelow n v
below_less n m v le h = (le_trans le h.0, at_least_less n m v.told le h.1)

-- a size that was told is still told after a seat changed that keeps it
pub told_set : (n : ℕ) (seats : List Known) (id : ℕ) (v w : Known) → get_elem? seats id ≡ some v
    → w.spent ≡ false → (v.told ≡ Some n → w.told ≡ Some n) → IsTold n seats → IsTold n (set seats id w)
told_set n seats id v w at live keep t = here (ℕ_discrete t.0 id)
  where
    here : Dec (t.0 ≡ id) → IsTold n (set seats id w)
    here (yes same) =
        let is : t.1 ≡ v = some-injective t.1 v (sym t.2 ∙ ap (λ k. get_elem? seats k) same ∙ at) in
        (id, w, set_at seats id v w at, live, keep (sym (ap (λ (y : Known). y.told) is) ∙ t.4))
    here (no apart) = (t.0, t.1, set_else seats id t.0 w apart ∙ t.2, t.3, t.4)
