-- The ends of deques, after a pass at each was lent.
use Rattle.std.proofs.Common.{◌≡◌, ℕ, zero, suc, ◌+◌, List, [], ◌∷◌, ◌++◌, length, All, refl, sym, ap, ◌∙◌}
use Rattle.std.proofs.Common.{arith}
use Rattle.std.specs.Prelude.{map}
use Rattle.std.proofs.lemmas.List.Elements.{All-head, All-tail, All-cons, All-push}
use Rattle.worker_results.specs.Naming.{numbers_from}
use Rattle.worker_results.specs.Results.{Handed}
use Rattle.worker_results.specs.Joining.{numbers_of, workers_of}
use Rattle.search_pool.specs.Rows.{AreFrom}
use Rattle.search_pool.specs.Deques.{AreStocked, HasPushed}
use Rattle.proof_tree.specs.Piece.{Subproblem}
use Rattle.piece_deque.specs.Deals.{one_more_out}
use Rattle.piece_deque.specs.Owners.{IsNew}
use Rattle.worker_results.specs.Passes.{Owned, deques, all_taken}
use Rattle.search_pool.specs.Slots.{IsReady, Owner, lent, lent_pass}

-- the workers stay who they are
pub numbers_out : (owned : List Owned) → numbers_of (map lent owned) ≡ numbers_of owned
numbers_out [] = refl
numbers_out (own ∷ owned) = ap (own.worker ∷◌) (numbers_out owned)

-- the passes are at their deques
pub deques_out : (owned : List Owned) → deques (map lent_pass owned) ≡ numbers_of owned
deques_out [] = refl
deques_out (own ∷ owned) = ap (own.worker ∷◌) (deques_out owned)

-- and took nothing
pub none_taken : (owned : List Owned) → all_taken (map lent_pass owned) ≡ []
none_taken [] = refl
none_taken (own ∷ owned) = none_taken owned

-- one pass more is out at each deque
pub one_more : (start : ℕ → List Subproblem) (out : ℕ) (owned : List Owned) → All (IsReady start out) owned
    → All (IsReady start (out + 1)) (map lent owned)
one_more start out [] all = λ k d lt. absurd (omega (arith, lt))
one_more start out (own ∷ owned) all =
    All-cons (IsReady start (out + 1)) (lent own) (map lent owned)
    (ap one_more_out (All-head (IsReady start out) own owned all))
    (one_more start out owned (All-tail (IsReady start out) own owned all))

-- an item more is one more
pub length-push : {A : Type 0} (xs : List A) (x : A) → length (xs ++ x ∷ []) ≡ length xs + 1
length-push [] x = omega arith
length-push (y ∷ ys) x = omega (arith, length-push ys x)

-- nothing lies on a new deque
pub new_is_stocked : (room : ℕ) (owner : Owner) → IsNew room owner → HasPushed [] owner
new_is_stocked room owner new = record { first_out = new.first_out; pass = new.pass }

-- a deque more, on which nothing lies
pub stocked_push : (pieces : List Subproblem) (owners : List Owner) (owner : Owner) → AreStocked pieces owners
    → HasPushed [] owner → AreStocked pieces (owners ++ owner ∷ [])
stocked_push pieces [] owner stocked new = absurd stocked
stocked_push pieces (first ∷ owners) owner stocked new =
    (stocked.0, All-push (HasPushed []) owners owner stocked.1 new)

-- one worker more
pub numbers_push : (owned : List Owned) (own : Owned)
    → numbers_of (owned ++ own ∷ []) ≡ numbers_of owned ++ own.worker ∷ []
numbers_push [] own = refl
numbers_push (one ∷ owned) own = ap (one.worker ∷◌) (numbers_push owned own)

-- there are `count` numbers from `first` on
length-numbers : (first count : ℕ) → length (numbers_from first count) ≡ count
length-numbers first zero = refl
length-numbers first (suc count) = omega (arith, length-numbers (first + 1) count)

-- a list is as long after each item was changed
pub length-map : {A B : Type 0} (f : A → B) (xs : List A) → length (map f xs) ≡ length xs
length-map f [] = refl
length-map f (x ∷ xs) = omega (arith, length-map f xs)

-- numbers in a row are as many as the ends
pub owned_long : (owned : List Owned) (count : ℕ) → numbers_of owned ≡ numbers_from 0 count → length owned ≡ count
owned_long owned count same =
    sym (length-map (λ (own : Owned). own.worker) owned) ∙ ap length same ∙ length-numbers 0 count

-- results in a row are of the workers in order
pub in_a_row : (first : ℕ) (results : List Handed) → AreFrom first results
    → workers_of results ≡ numbers_from first (length results)
in_a_row first [] row = refl
in_a_row first (result ∷ results) row =
    ap (λ (n : ℕ). n ∷ workers_of results) row.0 ∙ ap (first ∷◌) (in_a_row (first + 1) results row.1)
