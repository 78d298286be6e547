-- Splitting and joining seats keep the beacon's rule, and what holds once the first seat is alone.
use Rattle.std.proofs.Common.{◌≡◌, ◌≢◌, ℕ, ◌+◌, ◌≤◌, true, false, true≢false, List, [], ◌∷◌, ◌++◌, set, Some, sym}
use Rattle.std.proofs.Common.{ap, ◌∙◌, subst, ⊎_elim, arith}
use mathlib.Core.Option.{some, some-injective}
use native.Mathlib.Decide.{ℕ_discrete}
use lib.ListN.{get_elem?}
use Rattle.atomic_table.specs.Table.{Splits, Joins, Final, Seen}
use Rattle.atomic_table.proofs.Lists.{at_set, at_snoc, at_longer, set_else}
use Rattle.beacon.specs.declared.known.Known.{Known}
use Rattle.beacon.specs.Marks.{AtLeast, after_split, newcomer, together, nobody}
use Rattle.beacon.specs.Rule.{one_if_unspent, unspent, IsBelow, Fits, AllFit, IsTold}
use Rattle.beacon.proofs.SeatLemmas.{set_at, unspent_set, unspent_snoc, unspent_two}
use Rattle.beacon.proofs.MarkLemmas.{at_least_lesser, lesser_left, lesser_right, told_set}
use Rattle.beacon.proofs.StepLemmas.{Rule, kept}

-- an unset flag isn't set
off : false ≡ true → ⊥
off e = true≢false (sym e)

-- the first seat may be split, and the rule stays
pub splits : (id : ℕ) (v : Known) → v.first ≡ true → v.spent ≡ false
    → Splits Rule id v (after_split v) (newcomer v)
splits id v first live s h at =
    let word = h.word in
    let w : Known = after_split v in
    let seats : List Known = set s.views id w in
    let all : List Known = seats ++ newcomer v ∷ [] in
    let mine = h.fit id v at in
    let chief = mine.1 first in
    let below : IsBelow word v = mine.0 live in
    let a : one_if_unspent v.spent ≡ 1 = ap one_if_unspent live in
    let count : unspent seats ≡ unspent s.views = omega (arith, unspent_set s.views id v w at) in
    let more : unspent all ≡ unspent s.views + 1 = omega (arith, unspent_snoc seats (newcomer v)) in
    let told : IsTold word seats = told_set word s.views id v w at live (λ p. p) h.told in
    let now : AllFit word h.chief (unspent all) seats = λ j u e. ⊎_elim
    (λ (x : (j ≡ id) × (w ≡ u)). subst (λ (y : ℕ × Known). Fits word h.chief (unspent all) y.0 y.1)
    (λ i. (sym x.0 i, x.1 i)) ((λ _. below), (λ p. (chief.0, more ∙ ap (λ m. m + 1) chief.1))))
    (λ (x : (j ≢ id) × (get_elem? s.views j ≡ some u)). let k = h.fit j u x.1 in
    (k.0, (λ p. absurd (x.0 ((k.1 p).0 ∙ sym chief.0)))))
    (at_set s.views id j w u e) in
    kept word h.chief s.words all h.alone
    (told.0, told.1, at_longer seats (newcomer v ∷ []) told.0 told.1 told.2, told.3, told.4)
    (λ j u e. ⊎_elim (now j u)
    (λ (is : newcomer v ≡ u). subst (Fits word h.chief (unspent all) j) is
    ((λ _. (below.0, tt)), (λ p. absurd (off p))))
    (at_snoc seats (newcomer v) u j e))

-- who told the word is still there after one seat was joined into another
told_join : (word : ℕ) (seats : List Known) (id : ℕ) (v : Known) (other : ℕ) (u : Known)
    → get_elem? seats id ≡ some v → v.spent ≡ false → get_elem? seats other ≡ some u → other ≢ id
    → AtLeast word v.told → AtLeast word u.told → IsTold word seats
    → IsTold word (set (set seats id (together v u)) other nobody)
told_join word seats id v other u at live was apart mine theirs t = here (ℕ_discrete t.0 other)
  where
    both_there : get_elem? (set (set seats id (together v u)) other nobody) id ≡ some (together v u)
    both_there =
        set_else (set seats id (together v u)) other id nobody (λ p. apart (sym p))
        ∙ set_at seats id v (together v u) at

    here : Dec (t.0 ≡ other) → IsTold word (set (set seats id (together v u)) other nobody)
    here (yes same) =
        let is : t.1 ≡ u = some-injective t.1 u (sym t.2 ∙ ap (λ k. get_elem? seats k) same ∙ was) in
        let told : u.told ≡ Some word = sym (ap (λ (y : Known). y.told) is) ∙ t.4 in
        (id, together v u, both_there, live, lesser_right word v.told u.told told mine)
    here (no away) = among (ℕ_discrete t.0 id)
      where
        among : Dec (t.0 ≡ id) → IsTold word (set (set seats id (together v u)) other nobody)
        among (yes same) =
            let is : t.1 ≡ v = some-injective t.1 v (sym t.2 ∙ ap (λ k. get_elem? seats k) same ∙ at) in
            let told : v.told ≡ Some word = sym (ap (λ (y : Known). y.told) is) ∙ t.4 in
            (id, together v u, both_there, live, lesser_left word v.told u.told told theirs)
        among (no far) = (
          t.0,
          t.1,
          set_else (set seats id (together v u)) other t.0 nobody away
              ∙ set_else seats id t.0 (together v u) far ∙ t.2,
          t.3,
          t.4,
        )

-- a seat that comes back may be joined, and the rule stays
pub joins : (id : ℕ) (v : Known) (other : ℕ) (u : Known) → v.first ≡ true → v.spent ≡ false
    → u.spent ≡ false → Joins Rule id v other u (together v u) nobody
joins id v other u first live live2 s h at apart there =
    let word = h.word in
    let w : Known = together v u in
    let seats : List Known = set s.views id w in
    let all : List Known = set seats other nobody in
    let was : get_elem? s.views other ≡ some u = sym (set_else s.views id other w apart) ∙ there in
    let mine = h.fit id v at in
    let chief = mine.1 first in
    let below : IsBelow word v = mine.0 live in
    let theirs : IsBelow word u = (h.fit other u was).0 live2 in
    let low = below.0 in
    let low_theirs = theirs.0 in
    let both : IsBelow word w = (omega arith, at_least_lesser word v.told u.told below.1 theirs.1) in
    let a : one_if_unspent v.spent ≡ 1 = ap one_if_unspent live in
    let b : one_if_unspent u.spent ≡ 1 = ap one_if_unspent live2 in
    let count : unspent seats ≡ unspent s.views = omega (arith, unspent_set s.views id v w at) in
    let fewer : unspent all + 1 ≡ unspent s.views = omega (arith, unspent_set seats other u nobody there) in
    let two : 2 ≤ unspent s.views = unspent_two s.views id other v u apart at live was live2 in
    let left : unspent all ≡ w.out + 1 = (let e = chief.1 in omega arith) in
    let told : IsTold word all =
    told_join word s.views id v other u at live was apart below.1 theirs.1 h.told in
    kept word h.chief s.words all h.alone told
    (λ j x e. ⊎_elim
    (λ (y : (j ≡ other) × (nobody ≡ x)). subst (λ (z : ℕ × Known). Fits word h.chief (unspent all) z.0 z.1)
    (λ i. (sym y.0 i, y.1 i)) ((λ p. absurd (true≢false p)), (λ p. absurd (off p))))
    (λ (y : (j ≢ other) × (get_elem? seats j ≡ some x)). ⊎_elim
    (λ (z : (j ≡ id) × (w ≡ x)). subst (λ (k : ℕ × Known). Fits word h.chief (unspent all) k.0 k.1)
    (λ i. (sym z.0 i, z.1 i)) ((λ _. both), (λ p. (chief.0, left))))
    (λ (z : (j ≢ id) × (get_elem? s.views j ≡ some x)). let k = h.fit j x z.1 in
    (k.0, (λ p. absurd (z.0 ((k.1 p).0 ∙ sym chief.0)))))
    (at_set s.views id j w x y.1))
    (at_set seats other j nobody x e))

-- where the first seat is the only one, the word is what it has told
pub ends : (words : List ℕ) (homes : List ℕ) (id : ℕ) (v : Known) (word : ℕ)
    → v.first ≡ true → v.spent ≡ false → v.out ≡ 0 → Final (Seen Rule id v) words homes
    → get_elem? words 0 ≡ some word → (v.told ≡ Some word) × (word ≤ v.seen)
ends words homes id v word first live none last at =
    let h = last.1.0 in
    let is : h.word ≡ word =
    some-injective h.word word (sym (ap (λ ws. get_elem? ws 0) h.alone) ∙ ap (λ ws. get_elem? ws 0) last.2 ∙ at) in
    let mine = h.fit id v last.1.1 in
    let same : h.told.1 ≡ v = only (ℕ_discrete h.told.0 id) in (
      sym (ap (λ (y : Known). y.told) same) ∙ h.told.4 ∙ ap Some is,
      subst (λ n. n ≤ v.seen) is (mine.0 live).0,
    )
  where
    only : Dec (last.1.0.told.0 ≡ id) → last.1.0.told.1 ≡ v
    only (yes p) =
        some-injective _ _ (sym last.1.0.told.2 ∙ ap (λ k. get_elem? last.0.views k) p ∙ last.1.1)
    only (no p) =
        let seats = last.0.views in
        let t = last.1.0.told in
        let two : 2 ≤ unspent seats = unspent_two seats id t.0 v t.1 p last.1.1 live t.2 t.3 in
        let one : unspent seats ≡ v.out + 1 = ((last.1.0.fit id v last.1.1).1 first).1 in
        absurd (omega arith)
