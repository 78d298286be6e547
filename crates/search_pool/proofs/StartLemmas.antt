-- Owners, their deques and thieves by the numbers of the workers.
use Rattle.std.proofs.Common.{◌≡◌, ℕ, suc, ◌+◌, List, [], ◌∷◌, length, All, refl, sym, ap, ◌∙◌, arith}
use Rattle.std.proofs.lemmas.List.Elements.{All-head, All-tail, All-cons}
use Rattle.crossbeam_deque.specs.Handles.{worker_view}
use Rattle.proof_tree.specs.Piece.{Subproblem}
use Rattle.proof_tree.specs.Weights.{weigh}
use Rattle.piece_deque.specs.declared.dealt.Dealt.{Dealt}
use Rattle.worker_results.specs.Naming.{AreThieves, DequeId, Thief, numbers_from}
use Rattle.worker_results.specs.Joining.{StartWith, total}
use Rattle.search_pool.specs.Deques.{AreStocked, AreThievesOf, HasPushed, deque_at, pushed_at}
use Rattle.search_pool.specs.Slots.{AreOwners, Owner, ready}

-- nothing was taken from its deque
abbrev IsUntaken : Owner → Type 0
IsUntaken owner = HasPushed (worker_view owner).pushed owner

-- what was pushed is what the pass says
untaken : (pieces : List Subproblem) (owner : Owner) → HasPushed pieces owner → IsUntaken owner
untaken pieces owner h = record {
  first_out = h.first_out;
  pass = h.pass ∙ ap (λ (l : List Subproblem). ready l 0) (sym (ap (λ (d : Dealt). d.pushed) h.pass));
}

-- owners that pushed nothing are untaken
all_empty : (owners : List Owner) → All (HasPushed []) owners → All IsUntaken owners
all_empty [] all = λ k d lt. absurd (omega (arith, lt))
all_empty (owner ∷ owners) all = All-cons IsUntaken owner owners
    (untaken [] owner (All-head (HasPushed []) owner owners all))
    (all_empty owners (All-tail (HasPushed []) owner owners all))

-- nothing was taken from any that were stocked
all_untaken : (pieces : List Subproblem) (owners : List Owner) → AreStocked pieces owners → All IsUntaken owners
all_untaken pieces [] stocked = absurd stocked
all_untaken pieces (owner ∷ owners) stocked =
    All-cons IsUntaken owner owners (untaken pieces owner stocked.0) (all_empty owners stocked.1)

-- untaken owners in order are the owners of their deques, with what each pushed
owners_from : (deque : ℕ → DequeId) (start : ℕ → List Subproblem) (first : ℕ) (owners : List Owner)
    → ((k : ℕ) → deque (first + k) ≡ deque_at owners k) → ((k : ℕ) → start (first + k) ≡ pushed_at owners k)
    → All IsUntaken owners → AreOwners deque start first owners
owners_from deque start first [] deques starts all = tt
owners_from deque start first (owner ∷ owners) deques starts all =
    let here : first ≡ first + 0 = omega arith in
    let one = All-head IsUntaken owner owners all in (
      sym (ap deque here ∙ deques 0),
      one.first_out,
      one.pass ∙ ap (λ (l : List Subproblem). ready l 0) (sym (ap start here ∙ starts 0)),
      owners_from deque start (first + 1) owners
          (λ k. ap deque (let e : first + 1 + k ≡ first + suc k = omega arith in e) ∙ deques (suc k))
          (λ k. ap start (let e : first + 1 + k ≡ first + suc k = omega arith in e) ∙ starts (suc k))
          (All-tail IsUntaken owner owners all),
    )

-- the owners of stocked deques, named by their own numbers
pub owners_named : (pieces : List Subproblem) (owners : List Owner) → AreStocked pieces owners
    → AreOwners (deque_at owners) (pushed_at owners) 0 owners
owners_named pieces owners stocked =
    owners_from (deque_at owners) (pushed_at owners) 0 owners
    (λ k. ap (deque_at owners) (let e : 0 + k ≡ k = omega arith in e))
    (λ k. ap (pushed_at owners) (let e : 0 + k ≡ k = omega arith in e))
    (all_untaken pieces owners stocked)

-- their thieves are at the same deques
thieves_from : (deque : ℕ → DequeId) (first : ℕ) (owners : List Owner) (thieves : List Thief)
    → ((k : ℕ) → deque (first + k) ≡ deque_at owners k) → All IsUntaken owners → AreThievesOf owners thieves
    → AreThieves deque first thieves
thieves_from deque first [] [] deques all of = tt
thieves_from deque first [] (thief ∷ thieves) deques all of = absurd of
thieves_from deque first (owner ∷ owners) [] deques all of = tt
thieves_from deque first (owner ∷ owners) (thief ∷ thieves) deques all of =
    let here : first ≡ first + 0 = omega arith in (
      of.0 ∙ sym (ap deque here ∙ deques 0),
      of.1 ∙ (All-head IsUntaken owner owners all).first_out,
      thieves_from deque (first + 1) owners thieves
          (λ k. ap deque (let e : first + 1 + k ≡ first + suc k = omega arith in e) ∙ deques (suc k))
          (All-tail IsUntaken owner owners all) of.2,
    )

-- their thieves, by the same numbers
pub thieves_named : (pieces : List Subproblem) (owners : List Owner) (thieves : List Thief)
    → AreStocked pieces owners → AreThievesOf owners thieves → AreThieves (deque_at owners) 0 thieves
thieves_named pieces owners thieves stocked of =
    thieves_from (deque_at owners) 0 owners thieves
    (λ k. ap (deque_at owners) (let e : 0 + k ≡ k = omega arith in e)) (all_untaken pieces owners stocked) of

module _ (weight : Subproblem → ℕ) where
  -- the weight of what an owner pushed
  abbrev pushed_weight : Owner → ℕ
  pushed_weight owner = weigh weight (worker_view owner).pushed

  total_from : (start : ℕ → List Subproblem) (first : ℕ) (owners : List Owner)
      → ((k : ℕ) → start (first + k) ≡ pushed_at owners k)
      → total (λ worker. weigh weight (start worker)) (numbers_from first (length owners))
      ≡ total pushed_weight owners
  total_from start first [] starts = refl
  total_from start first (owner ∷ owners) starts =
      let here : first ≡ first + 0 = omega arith in
      let one : weigh weight (start first) ≡ pushed_weight owner
      = ap (λ (n : ℕ). weigh weight (start n)) here ∙ ap (weigh weight) (starts 0) in
      let rest = total_from start (first + 1) owners
      (λ k. ap start (let e : first + 1 + k ≡ first + suc k = omega arith in e) ∙ starts (suc k)) in
      omega (arith, one, rest)

  none_pushed : (owners : List Owner) → All (HasPushed []) owners → total pushed_weight owners ≡ 0
  none_pushed [] all = refl
  none_pushed (owner ∷ owners) all =
      let one = ap (λ (d : Dealt). weigh weight d.pushed) (All-head (HasPushed []) owner owners all).pass in
      let rest = none_pushed owners (All-tail (HasPushed []) owner owners all) in
      omega (arith, one, rest)

  stocked_weight : (pieces : List Subproblem) (owners : List Owner) → AreStocked pieces owners
      → total pushed_weight owners ≡ weigh weight pieces
  stocked_weight pieces [] stocked = absurd stocked
  stocked_weight pieces (owner ∷ owners) stocked =
      let one = ap (λ (d : Dealt). weigh weight d.pushed) stocked.0.pass in
      let rest = none_pushed owners stocked.1 in
      omega (arith, one, rest)

-- the pieces that were stocked are all that lies on the deques at the start
pub start_with : (pieces : List Subproblem) (owners : List Owner) → AreStocked pieces owners
    → StartWith (pushed_at owners) (length owners) pieces
start_with pieces owners stocked weight =
    total_from weight (pushed_at owners) 0 owners
    (λ k. ap (pushed_at owners) (let e : 0 + k ≡ k = omega arith in e))
    ∙ stocked_weight weight pieces owners stocked
