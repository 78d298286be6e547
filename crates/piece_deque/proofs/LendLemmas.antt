-- Lending passes and taking them back keeps the rule of the pieces.
use Rattle.std.proofs.Common.{◌≡◌, ◌≢◌, ℕ, ◌+◌, ◌≤◌, true, false, true≢false, List, [], ◌∷◌, ◌++◌, set}
use Rattle.std.proofs.Common.{refl, sym, ap, ◌∙◌, subst, ⊎_elim, arith}
use mathlib.Core.Option.{some}
use lib.ListN.{get_elem?}
use Rattle.crossbeam_deque.specs.Tasks.{Forks, Merges}
use Rattle.atomic_table.proofs.Lists.{at_snoc, set_else}
use Rattle.piece_deque.specs.declared.dealt.Dealt.{Dealt}
use Rattle.piece_deque.specs.Deals.{thief_pass, nobody, one_more_out, together_with}
use Rattle.piece_deque.specs.Rule.{one_if_unspent, unspent, Fits, AllFit, Balances}
use Rattle.piece_deque.proofs.TotalLemmas.{total_set, total_snoc, total_two, weigh_append, pushed_weight, taken_weight}
use Rattle.piece_deque.proofs.TotalLemmas.{false_of}
use Rattle.piece_deque.proofs.StepLemmas.{counts, fit_set}

-- an unset flag isn't set
off : false ≡ true → ⊥
off e = true≢false (sym e)

-- a pass isn't the first one, since another is
pub not_first : (chief n i j : ℕ) (v u : Dealt) → v.first ≡ true → Fits chief n i v → Fits chief n j u
    → j ≢ i → u.first ≡ true → ⊥
not_first chief n i j v u first mine theirs apart p = apart ((theirs.2 p).0 ∙ sym (mine.2 first).0)

-- the owner's pass may be split, and the balance stays
pub forks : (port : ℕ) (v : Dealt) → v.first ≡ true → v.spent ≡ false
    → Forks Balances port v (one_more_out v) thief_pass
forks port v first live items passes k at =
    let w : Dealt = one_more_out v in
    let mine = k.fit port v at in
    let boss = mine.2 first in
    let part : List Dealt = set passes port w in
    let now : List Dealt = part ++ thief_pass ∷ [] in
    let count : unspent now ≡ unspent passes + 1 =
    (let e = total_set counts passes port v w at in let s = total_snoc counts part thief_pass in omega arith) in
    let old : AllFit k.chief (unspent now) part =
    fit_set k.chief (unspent now) passes port w
    (mine.0, mine.1, λ p. (boss.0, count ∙ ap (λ n. n + 1) boss.1))
    (λ j u apart e. let h = k.fit j u e in
    (h.0, h.1, λ p. absurd (not_first k.chief (unspent passes) port j v u first mine h apart p))) in
    record {
      chief = k.chief;
      balance = λ h.
          (let p = total_set (pushed_weight h) passes port v w at in
          let t = total_set (taken_weight h) passes port v w at in
          let all = k.balance h in
          omega (arith, total_snoc (pushed_weight h) part thief_pass, total_snoc (taken_weight h) part thief_pass));
      fit = λ j u e. ⊎_elim (old j u)
          (λ (is : thief_pass ≡ u). subst (Fits k.chief (unspent now) j) is
          ((λ _. refl), (λ _. refl), (λ p. absurd (off p))))
          (at_snoc part thief_pass u j e);
    }

-- a pass that comes back may be merged, and the balance stays
pub merges : (port : ℕ) (v : Dealt) (other : ℕ) (u : Dealt) → v.first ≡ true → v.spent ≡ false
    → u.spent ≡ false → Merges Balances port v other u (together_with v u) nobody
merges port v other u first live live2 items passes k at apart there =
    let w : Dealt = together_with v u in
    let was : get_elem? passes other ≡ some u = sym (set_else passes port other w apart) ∙ there in
    let mine = k.fit port v at in
    let boss = mine.2 first in
    let theirs = k.fit other u was in
    let none : u.pushed ≡ [] =
    theirs.1 (false_of u.first (not_first k.chief (unspent passes) port other v u first mine theirs apart)) in
    let mid : List Dealt = set passes port w in
    let now : List Dealt = set mid other nobody in
    let a : one_if_unspent v.spent ≡ 1 = ap one_if_unspent live in
    let b : one_if_unspent u.spent ≡ 1 = ap one_if_unspent live2 in
    let count : unspent now + 1 ≡ unspent passes =
    (let e = total_set counts passes port v w at in
    let s = total_set counts mid other u nobody there in omega arith) in
    let two : 2 ≤ unspent passes = (let t = total_two counts passes port other v u apart at was in omega arith) in
    let left : unspent now ≡ w.out + 1 = (let e = boss.1 in omega arith) in
    record {
      chief = k.chief;
      balance = λ h.
          (let p = total_set (pushed_weight h) passes port v w at in
          let t = total_set (taken_weight h) passes port v w at in
          let p2 = total_set (pushed_weight h) mid other u nobody there in
          let t2 = total_set (taken_weight h) mid other u nobody there in
          let all = k.balance h in
          omega (arith, weigh_append h v.pushed u.pushed, weigh_append h v.taken u.taken));
      fit = fit_set k.chief (unspent now) mid other nobody ((λ _. refl), (λ _. refl), (λ p. absurd (off p)))
          (λ j x far e. fit_set k.chief (unspent now) passes port w (
            (λ p. absurd (true≢false (sym p ∙ live))),
            (λ p. absurd (true≢false (sym first ∙ p))),
            (λ p. (boss.0, left)),
          )
          (λ i y away e2. let h = k.fit i y e2 in
          (h.0, h.1, λ p. absurd (not_first k.chief (unspent passes) port i v y first mine h away p))) j x e);
    }
