-- Opening, looking and telling keep the beacon's rule.
use Rattle.std.proofs.Common.{◌≡◌, ◌≢◌, ℕ, zero, suc, ◌+◌, ◌≤◌, min, false, List, [], ◌∷◌, set, Some, refl, sym, ap}
use Rattle.std.proofs.Common.{◌∙◌, subst, ⊎_elim, le_refl, arith}
use Rattle.std.specs.Prelude.{slice_index, slice_set}
use mathlib.Core.Option.{some, some-ne-none, some-injective}
use native.Mathlib.Decide.{dec_le}
use lib.ListN.{get_elem?}
use Rattle.atomic_table.specs.Table.{State, Me, keeps, Allows}
use Rattle.atomic_table.proofs.Lists.{at_set}
use Rattle.beacon.specs.declared.known.Known.{Known}
use Rattle.beacon.specs.Marks.{AtLeast, at_first, has_seen, Looked, told_too}
use Rattle.beacon.specs.Rule.{one_if_unspent, unspent, IsBelow, Fits, AllFit, IsTold, IsLeastTold}
use Rattle.beacon.proofs.SeatLemmas.{set_at, unspent_set}
use Rattle.beacon.proofs.MarkLemmas.{at_least_less, at_least_lesser, lesser_left, lesser_right, below_less, told_set}

-- the rule, of a table's state
abbrev pub Rule : State ℕ Known → Type 0
Rule s = IsLeastTold s.words s.views

-- the rule, from its parts
abbrev pub kept : (word chief : ℕ) (words : List ℕ) (seats : List Known) → words ≡ word ∷ []
    → IsTold word seats → AllFit word chief (unspent seats) seats → IsLeastTold words seats
kept word chief words seats is told fit =
    record { word = word; chief = chief; alone = is; told = told; fit = fit }

-- one word, after a step on it
abbrev stepped : (ℕ → ℕ) → List ℕ → List ℕ
stepped f words = slice_set words 0 (f (slice_index words 0))

-- one seat changes, and the word does not rise
changes : (n : ℕ) (f : ℕ → ℕ) (words : List ℕ) (seats : List Known) (id : ℕ) (v w : Known)
    (k : IsLeastTold words seats) → get_elem? seats id ≡ some v → v.spent ≡ false
    → w.first ≡ v.first → w.spent ≡ false → w.out ≡ v.out → f k.word ≡ n → n ≤ k.word → IsBelow n w
    → IsTold n (set seats id w) → IsLeastTold (stepped f words) (set seats id w)
changes n f words seats id v w k at live first alive out is less below told =
    let same : stepped f words ≡ n ∷ [] = ap (stepped f) k.alone ∙ ap (λ m. m ∷ []) is in
    let a : one_if_unspent v.spent ≡ 1 = ap one_if_unspent live in
    let b : one_if_unspent w.spent ≡ 1 = ap one_if_unspent alive in
    let count : unspent (set seats id w) ≡ unspent seats = omega (arith, unspent_set seats id v w at) in
    let mine = k.fit id v at in
    kept n k.chief (stepped f words) (set seats id w) same told
    (λ j u e. ⊎_elim
    (λ (x : (j ≡ id) × (w ≡ u)). subst (λ (y : ℕ × Known). Fits n k.chief (unspent (set seats id w)) y.0 y.1)
    (λ i. (sym x.0 i, x.1 i))
    ((λ _. below), (λ p. let h = mine.1 (sym first ∙ p) in (h.0, count ∙ h.1 ∙ ap (λ m. m + 1) (sym out)))))
    (λ (x : (j ≢ id) × (get_elem? seats j ≡ some u)). let h = k.fit j u x.1 in
    ((λ p. below_less n k.word u less (h.0 p)), (λ p. ((h.1 p).0, count ∙ (h.1 p).1))))
    (at_set seats id j w u e))

-- the word begins as the least size told
pub begins : (size : ℕ) → IsLeastTold (size ∷ []) (at_first size ∷ [])
begins size =
    kept size 0 (size ∷ []) (at_first size ∷ []) refl (0, at_first size, refl, refl, refl) one
  where
    one : AllFit size 0 (unspent (at_first size ∷ [])) (at_first size ∷ [])
    one zero v e =
        subst (Fits size 0 (unspent (at_first size ∷ [])) 0) (some-injective _ _ e)
        ((λ _. (le_refl size, le_refl size)), (λ _. (refl, omega arith)))
    one (suc i) v e = absurd (some-ne-none v (sym e))

-- a look by an unspent seat keeps the rule
pub looks : (slots id : ℕ) (me : Me ℕ Known) → me.0.spent ≡ false
    → Allows Rule slots id me 0 (λ n. n) (λ n after. Looked me.0 n after.0 × (after.1 ≡ me.1))
looks slots id me live s h len at small =
    let v = me.0 in
    let found : slice_index s.words 0 ≡ h.word = ap (λ ws. slice_index ws 0) h.alone in
    let w : Known = has_seen v (slice_index s.words 0) in
    let below : IsBelow h.word v = (h.fit id v at).0 live in
    let at_most : IsBelow (slice_index s.words 0) v = subst (λ n. IsBelow n v) (sym found) below in
    let told : IsTold h.word (set s.views id w) = told_set h.word s.views id v w at live (λ p. p) h.told in (
      w,
      keeps,
      tt,
      changes h.word (λ n. n) s.words s.views id v w h at live refl live refl refl (le_refl h.word)
          (omega arith, below.1) told,
      (record { not_more = at_most.0; at_most_told = at_most.1; now_seen = refl }, refl),
    )

-- who told the word that is left after another size was told
told_min : (word t : ℕ) (seats : List Known) (id : ℕ) (v : Known) → get_elem? seats id ≡ some v
    → v.spent ≡ false → AtLeast word v.told → IsTold word seats → Dec (word ≤ t)
    → IsTold (min word t) (set seats id (told_too v t))
told_min word t seats id v at live below told (yes le) =
    let same : word ≡ min word t = omega arith in
    subst (λ n. IsTold n (set seats id (told_too v t))) same
    (told_set word seats id v (told_too v t) at live (λ p. lesser_left word v.told (Some t) p le) told)
told_min word t seats id v at live below told (no more) =
    let less : t ≤ word = omega arith in
    let same : t ≡ min word t = omega arith in
    let rest : AtLeast t v.told = at_least_less t word v.told less below in
    let is : (told_too v t).told ≡ Some t = lesser_right t v.told (Some t) refl rest in
    subst (λ n. IsTold n (set seats id (told_too v t))) same
    (id, told_too v t, set_at seats id v (told_too v t) at, live, is)

-- a tell by an unspent seat keeps the rule
pub tells : (slots id : ℕ) (me : Me ℕ Known) (t : ℕ) → me.0.spent ≡ false
    → Allows Rule slots id me 0 (λ n. min n t) (λ n after. (after.0 ≡ told_too me.0 t) × (after.1 ≡ me.1))
tells slots id me t live s h len at small =
    let v = me.0 in
    let word = h.word in
    let w : Known = told_too v t in
    let below : IsBelow word v = (h.fit id v at).0 live in
    let low : min word t ≤ word = omega arith in
    let low_told : min word t ≤ t = omega arith in
    let low_seen : min word t ≤ v.seen = omega arith in
    let least : AtLeast (min word t) w.told =
    at_least_lesser (min word t) v.told (Some t) (at_least_less (min word t) word v.told low below.1) low_told in
    let told : IsTold (min word t) (set s.views id w) =
    told_min word t s.views id v at live below.1 h.told (dec_le word t) in (
      w,
      keeps,
      tt,
      changes (min word t) (λ n. min n t) s.words s.views id v w h at live refl live refl refl low
          (low_seen, least) told,
      (refl, refl),
    )
