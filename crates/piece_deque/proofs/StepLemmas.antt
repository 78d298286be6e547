-- Pushing and taking keep the rule of the pieces.
use Rattle.std.proofs.Common.{◌≡◌, ◌≢◌, ℕ, true, false, true≢false, List, [], ◌∷◌, set}
use Rattle.std.proofs.Common.{refl, sym, ◌∙◌, subst, ⊎_elim, arith}
use mathlib.Core.Option.{some}
use lib.ListN.{get_elem?}
use Rattle.crossbeam_deque.specs.Tasks.{Pushes, Takes}
use Rattle.atomic_table.proofs.Lists.{at_set}
use Rattle.proof_tree.specs.Piece.{Subproblem}
use Rattle.piece_deque.specs.declared.dealt.Dealt.{Dealt}
use Rattle.piece_deque.specs.Deals.{pushed_too, took_too}
use Rattle.piece_deque.specs.Rule.{one_if_unspent, unspent, Fits, AllFit, Balances}
use Rattle.piece_deque.proofs.TotalLemmas.{total_set, weigh_append, pushed_weight, taken_weight}

-- what a pass counts among the unspent ones
abbrev pub counts : Dealt → ℕ
counts pass = one_if_unspent pass.spent

-- passes fit where the changed one fits and the others still do
pub fit_set : (chief n : ℕ) (passes : List Dealt) (i : ℕ) (w : Dealt) → Fits chief n i w
    → ((j : ℕ) (u : Dealt) → j ≢ i → get_elem? passes j ≡ some u → Fits chief n j u)
    → AllFit chief n (set passes i w)
fit_set chief n passes i w mine others j u e = ⊎_elim
    (λ (x : (j ≡ i) × (w ≡ u)). subst (λ (y : ℕ × Dealt). Fits chief n y.0 y.1) (λ k. (sym x.0 k, x.1 k)) mine)
    (λ (x : (j ≢ i) × (get_elem? passes j ≡ some u)). others j u x.0 x.1)
    (at_set passes i j w u e)

-- a pass fits the same number
fits_still : (chief n m j : ℕ) (u : Dealt) → m ≡ n → Fits chief n j u → Fits chief m j u
fits_still chief n m j u same h = (h.0, h.1, λ p. ((h.2 p).0, same ∙ (h.2 p).1))

-- the owner's push keeps the balance
pub pushes : (port : ℕ) (v : Dealt) (x : Subproblem) → v.first ≡ true
    → Pushes Balances port v (x ∷ []) (λ w. w ≡ pushed_too v (x ∷ []))
pushes port v x first items passes k at =
    let w : Dealt = pushed_too v (x ∷ []) in
    let mine = k.fit port v at in
    let now : List Dealt = set passes port w in
    let count : unspent now ≡ unspent passes = (let e = total_set counts passes port v w at in omega arith) in
    let boss = mine.2 first in (
      w,
      record {
        chief = k.chief;
        balance = λ h.
            (let p = total_set (pushed_weight h) passes port v w at in
            let t = total_set (taken_weight h) passes port v w at in
            let all = k.balance h in
            omega (arith, weigh_append h v.pushed (x ∷ []), weigh_append h items (x ∷ [])));
        fit = fit_set k.chief (unspent now) passes port w
            (mine.0, (λ p. absurd (true≢false (sym first ∙ p))), λ p. (boss.0, count ∙ boss.1))
            (λ j u apart e. fits_still k.chief (unspent passes) (unspent now) j u count (k.fit j u e));
      },
      refl,
    )

-- a take by any pass keeps the balance
pub takes : (port : ℕ) (v : Dealt) → v.spent ≡ false → Takes Balances port v 1 (λ xs w. w ≡ took_too v xs)
takes port v live xs items passes _ _ k at =
    let w : Dealt = took_too v xs in
    let mine = k.fit port v at in
    let now : List Dealt = set passes port w in
    let count : unspent now ≡ unspent passes = (let e = total_set counts passes port v w at in omega arith) in (
      w,
      record {
        chief = k.chief;
        balance = λ h.
            (let p = total_set (pushed_weight h) passes port v w at in
            let t = total_set (taken_weight h) passes port v w at in
            let all = k.balance h in
            omega (arith, weigh_append h v.taken xs, weigh_append h xs items));
        fit = fit_set k.chief (unspent now) passes port w
            ((λ p. absurd (true≢false (sym p ∙ live))), mine.1, λ p. ((mine.2 p).0, count ∙ (mine.2 p).1))
            (λ j u apart e. fits_still k.chief (unspent passes) (unspent now) j u count (k.fit j u e));
      },
      refl,
    )
