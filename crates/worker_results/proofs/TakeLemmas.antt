-- Owners take back rows of passes.
use Rattle.std.proofs.Common.{◌≡◌, ℕ, zero, suc, ◌+◌, ◌<◌, List, [], ◌∷◌, ◌++◌, length, take, drop, set}
use Rattle.std.proofs.Common.{get_or, refl, ap, ◌∙◌, arith}
use Rattle.std.proofs.lemmas.List.{length-map}
use Rattle.std.proofs.lemmas.List.Elements.{All-head, All-tail, All-cons, All-nil}
use Rattle.proof_tree.specs.Piece.{Subproblem}
use Rattle.proof_tree.specs.Weights.{weigh}
use Rattle.schedule_law.proofs.PieceLemmas.{weigh-append}
use Rattle.worker_results.specs.Naming.{numbers_from}
use Rattle.worker_results.specs.Passes.{Owned, KnownPass, all_taken, deques, took_back}
use Rattle.worker_results.specs.Results.{Handed}
use Rattle.worker_results.specs.Joining.{AreOfAll, numbers_of, total}
use Rattle.worker_results.specs.Parting.{AreOut}
use Rattle.worker_results.specs.Taking.{take_back_row}

-- ---- owners and passes by their numbers

-- of owners in order, each has the number of its place
pub number_at : (os : List Owned) (from n k : ℕ) (d : Owned) → k < length os → numbers_of os ≡ numbers_from from n
    → (get_or os k d).worker ≡ from + k
number_at [] from n k d lt e = absurd (omega arith)
number_at (o ∷ os) from zero k d lt e = absurd (cc)
number_at (o ∷ os) from (suc n) zero d lt e = (let a : o.worker ≡ from = cc in omega arith)
number_at (o ∷ os) from (suc n) (suc k) d lt e =
    let a : numbers_of os ≡ numbers_from (from + 1) n = cc in
    omega (arith, number_at os (from + 1) n k d (omega arith) a)

-- an owner changed at its place keeps its number
pub numbers_of-set : (os : List Owned) (k : ℕ) (o d : Owned) → o.worker ≡ (get_or os k d).worker
    → numbers_of (set os k o) ≡ numbers_of os
numbers_of-set [] k o d e = refl
numbers_of-set (x ∷ xs) zero o d e = ap (λ n. n ∷ numbers_of xs) e
numbers_of-set (x ∷ xs) (suc k) o d e = ap (λ l. x.worker ∷ l) (numbers_of-set xs k o d e)

-- there are n numbers from `from` on
length-numbers_from : (from n : ℕ) → length (numbers_from from n) ≡ n
length-numbers_from from zero = refl
length-numbers_from from (suc n) = ap suc (length-numbers_from (from + 1) n)

-- each pass is at one deque
length-deques : (rs : List KnownPass) → length (deques rs) ≡ length rs
length-deques [] = refl
length-deques (r ∷ rs) = ap suc (length-deques rs)

-- each owner has one number
length-numbers_of : (os : List Owned) → length (numbers_of os) ≡ length os
length-numbers_of [] = refl
length-numbers_of (o ∷ os) = ap suc (length-numbers_of os)

-- owners in order are as many as workers
pub owners_long : (os : List Owned) (n : ℕ) → numbers_of os ≡ numbers_from 0 n → length os ≡ n
owners_long os n e = (let a = ap length e in omega (arith, length-numbers_of os, length-numbers_from 0 n))

-- and so are results
pub results_long : (ds : List Handed) (n : ℕ) → AreOfAll n ds → length ds ≡ n
results_long ds n e =
    let a = ap length e in
    let b = length-map ds (λ (d : Handed). d.holdings.worker) in
    omega (arith, length-numbers_from 0 n)

-- and the passes of a row
pub row_long : (rs : List KnownPass) (from n : ℕ) → deques rs ≡ numbers_from from n → length rs ≡ n
row_long rs from n e = (let a = ap length e in omega (arith, length-deques rs, length-numbers_from from n))

-- the first pass of a row is at the first deque, the rest at those after it
pub first_deque : (r : KnownPass) (rs : List KnownPass) (from : ℕ)
    → deques (r ∷ rs) ≡ numbers_from from (length (r ∷ rs))
    → (r.deque ≡ from) × (deques rs ≡ numbers_from (from + 1) (length rs))
first_deque r rs from e = (cc, cc)

-- ---- one row

-- an owner takes back its pass, and those after it take back theirs
take_step : (os : List Owned) (k : ℕ) (o d : Owned) (r : KnownPass) (rs : List KnownPass) → k < length os
    → o ≡ record { worker = (get_or os k d).worker; knows = took_back (get_or os k d).knows r.knows.taken }
    → take (suc k) (set os k o) ++ take_back_row (drop (suc k) (set os k o)) rs
    ≡ take k os ++ take_back_row (drop k os) (r ∷ rs)
take_step [] k o d r rs lt e = absurd (omega arith)
take_step (x ∷ xs) zero o d r rs lt e = ap (λ y. y ∷ take_back_row xs rs) e
take_step (x ∷ xs) (suc k) o d r rs lt e = ap (λ l. x ∷ l) (take_step xs k o d r rs (omega arith) e)

-- one owner more took back its pass
pub take_more : (os : List Owned) (k m : ℕ) (o d : Owned) (r : KnownPass) (rs : List KnownPass) → m ≡ suc k
    → k < length os → o.worker ≡ (get_or os k d).worker → o.knows ≡ took_back (get_or os k d).knows r.knows.taken
    → take m (set os k o) ++ take_back_row (drop m (set os k o)) rs ≡ take k os ++ take_back_row (drop k os) (r ∷ rs)
take_more os k m o d r rs e lt w f =
    ap (λ n. take n (set os k o) ++ take_back_row (drop n (set os k o)) rs) e
    ∙ take_step os k o d r rs lt (λ i. record { worker = w i; knows = f i })

-- past the last owner all have
pub take_end : (os : List Owned) (k : ℕ) (rs : List KnownPass) → k ≡ length os
    → take k os ++ take_back_row (drop k os) rs ≡ os
take_end [] zero rs e = refl
take_end [] (suc k) rs e = absurd (omega arith)
take_end (o ∷ os) zero rs e = absurd (omega arith)
take_end (o ∷ os) (suc k) rs e = ap (λ l. o ∷ l) (take_end os k rs (omega arith))

-- ---- what a row does to the sums

-- a row that was taken back leaves one pass less out at each deque
pub out_in : (n : ℕ) (os : List Owned) (rs : List KnownPass) → length rs ≡ length os → AreOut (suc n) os
    → AreOut n (take_back_row os rs)
out_in n [] rs same all = All-nil (λ (o : Owned). o.knows.out ≡ n)
out_in n (o ∷ os) [] same all = absurd (omega arith)
out_in n (o ∷ os) (r ∷ rs) same all =
    All-cons (λ (x : Owned). x.knows.out ≡ n) _ (take_back_row os rs)
    (let a = All-head (λ (x : Owned). x.knows.out ≡ suc n) o os all in omega arith)
    (out_in n os rs (omega arith) (All-tail (λ (x : Owned). x.knows.out ≡ suc n) o os all))

-- and leaves what was pushed
pub pushed_in : (h : Subproblem → ℕ) (os : List Owned) (rs : List KnownPass)
    → total (λ o. weigh h o.knows.pushed) (take_back_row os rs) ≡ total (λ o. weigh h o.knows.pushed) os
pushed_in h [] rs = refl
pushed_in h (o ∷ os) [] = refl
pushed_in h (o ∷ os) (r ∷ rs) = omega (arith, pushed_in h os rs)

-- and adds what its passes took
pub taken_in : (h : Subproblem → ℕ) (os : List Owned) (rs : List KnownPass) → length rs ≡ length os
    → total (λ o. weigh h o.knows.taken) (take_back_row os rs)
    ≡ total (λ o. weigh h o.knows.taken) os + weigh h (all_taken rs)
taken_in h [] [] same = refl
taken_in h [] (r ∷ rs) same = absurd (omega arith)
taken_in h (o ∷ os) [] same = absurd (omega arith)
taken_in h (o ∷ os) (r ∷ rs) same = omega (
  arith,
  taken_in h os rs (omega arith),
  weigh-append h o.knows.taken r.knows.taken,
  weigh-append h r.knows.taken (all_taken rs),
)
