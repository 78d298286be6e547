-- A worker's passes after one of them tried to take a piece.
use Rattle.std.proofs.Common.{◌≡◌, ℕ, zero, suc, ◌+◌, ◌<◌, List, [], ◌∷◌, length, set, get_or}
use Rattle.std.proofs.Common.{refl, ap, ◌∙◌, arith}
use Rattle.std.proofs.lemmas.List.Elements.{Contains-get_or}
use Rattle.crossbeam_deque.specs.Handles.{stealer_deque, stealer_flavor}
use Rattle.proof_tree.specs.Piece.{Subproblem}
use Rattle.proof_tree.specs.Weights.{weigh}
use Rattle.piece_deque.specs.declared.dealt.Dealt.{Dealt}
use Rattle.piece_deque.specs.declared.answer.Take.{Take}
use Rattle.piece_deque.specs.declared.answer.Take.TheVariants.{Got, Empty, Again}
use Rattle.piece_deque.specs.Deals.{took_too}
use Rattle.piece_deque.specs.Rule.{Answers, WasEmpty}
use Rattle.piece_deque.proofs.TotalLemmas.{weigh_append}
use Rattle.worker_results.specs.Naming.{DequeId, Thief, AreThieves, numbers_from}
use Rattle.worker_results.specs.Passes.{KnownPass, deques, all_taken}
use Rattle.worker_results.specs.Tries.{TriedOne}

-- a pass changed at its place is at the same deque
pub deques_set : (rs : List KnownPass) (k : ℕ) (r d : KnownPass) → r.deque ≡ (get_or rs k d).deque
    → deques (set rs k r) ≡ deques rs
deques_set [] k r d e = refl
deques_set (x ∷ xs) zero r d e = ap (λ n. n ∷ deques xs) e
deques_set (x ∷ xs) (suc k) r d e = ap (λ l. x.deque ∷ l) (deques_set xs k r d e)

-- a pass that took one more piece adds its weight to all taken
taken_set : (h : Subproblem → ℕ) (rs : List KnownPass) (k : ℕ) (r d : KnownPass) (p : Subproblem) → k < length rs
    → r.knows ≡ took_too (get_or rs k d).knows (p ∷ [])
    → weigh h (all_taken (set rs k r)) ≡ weigh h (all_taken rs) + h p
taken_set h [] k r d p lt e = absurd (omega arith)
taken_set h (x ∷ xs) zero r d p lt e =
    let a = ap (λ (d : Dealt). weigh h d.taken) e in
    let b = weigh_append h x.knows.taken (p ∷ []) in
    let c = weigh_append h r.knows.taken (all_taken xs) in
    let f = weigh_append h x.knows.taken (all_taken xs) in omega arith
taken_set h (x ∷ xs) (suc k) r d p lt e =
    let a = taken_set h xs k r d p (omega arith) e in
    let c = weigh_append h x.knows.taken (all_taken (set xs k r)) in
    let f = weigh_append h x.knows.taken (all_taken xs) in omega arith

-- the thief with this index is at the deque of that number
pub thief_at : (deque : ℕ → DequeId) (from : ℕ) (ts : List Thief) (k : ℕ) (d : Thief) → k < length ts
    → AreThieves deque from ts
    → (stealer_flavor (get_or ts k d) ≡ 0) × (stealer_deque (get_or ts k d) ≡ deque (from + k))
thief_at deque from [] k d lt all = absurd (omega arith)
thief_at deque from (t ∷ ts) zero d lt all = (all.1, all.0 ∙ ap deque (omega arith))
thief_at deque from (t ∷ ts) (suc k) d lt all =
    let h = thief_at deque (from + 1) ts k d (omega arith) all.2 in (h.0, h.1 ∙ ap deque (omega arith))

-- so is the pass
pub deque_at : (rs : List KnownPass) (from n k : ℕ) (d : KnownPass) → k < length rs
    → deques rs ≡ numbers_from from n → (get_or rs k d).deque ≡ from + k
deque_at [] from n k d lt e = absurd (omega arith)
deque_at (r ∷ rs) from zero k d lt e = absurd (cc)
deque_at (r ∷ rs) from (suc n) zero d lt e = let a : r.deque ≡ from = cc in omega arith
deque_at (r ∷ rs) from (suc n) (suc k) d lt e =
    let a : deques rs ≡ numbers_from (from + 1) n = cc in omega (arith, deque_at rs (from + 1) n k d (omega arith) a)

-- a pass put back as it was changes nothing
set_same : (rs : List KnownPass) (k : ℕ) (r d : KnownPass) → r ≡ get_or rs k d → set rs k r ≡ rs
set_same [] k r d e = refl
set_same (x ∷ xs) zero r d e = ap (λ y. y ∷ xs) e
set_same (x ∷ xs) (suc k) r d e = ap (λ l. x ∷ l) (set_same xs k r d e)

-- what is known of the passes after one of them, at the deque of this number, tried to take
pub tried : (deque : ℕ) (rs : List KnownPass) (k : ℕ) (r d : KnownPass) (t : Take) → k < length rs
    → (get_or rs k d).deque ≡ deque → r.deque ≡ (get_or rs k d).deque
    → Answers WasEmpty (get_or rs k d).knows t r.knows → TriedOne deque rs t (set rs k r)
tried deque rs k r d (Got p) lt there same done =
    record { same = deques_set rs k r d same; more = λ h. taken_set h rs k r d p lt done }
tried deque rs k r d Empty lt there same done = (
  set_same rs k r d (λ i. record { deque = same i; knows = done.0 i }),
  record { pass = get_or rs k d; has = Contains-get_or rs k d lt; at = there; empty = done.1 },
)
tried deque rs k r d Again lt there same done = set_same rs k r d (λ i. record { deque = same i; knows = done i })
