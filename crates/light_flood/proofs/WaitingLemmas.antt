-- Lists of waiting cells, one for each level.
use Rattle.std.proofs.Common.{◌≡◌, ℕ, ◌+◌, ◌<◌, List, [], ◌∷◌, ◌++◌, length, map, set, get_or, sym, ap, subst, ◌∙◌}
use Rattle.std.proofs.Common.{arith, inl, inr, length-append, get_or-set_same, get_or-set_other}
use Rattle.std.specs.Global.{Vec}
use Rattle.std.proofs.lemmas.Bool.{cases_lt}
use Rattle.std.proofs.lemmas.List.{map-set, length-map, get_or_past, get_or-map, get_or_push, get_or_append_left}
use Rattle.light_flood.specs.Spreading.{waiting_at, IsWaiting}

-- one list is replaced
pub replaced : {V : Type 0} (f : V → List ℕ) (lists : List V) (level : ℕ) (cells : V) (old : List (List ℕ))
    → map f lists ≡ old → length lists ≡ 16 → level < 16 → IsWaiting old level (f cells) (map f (set lists level cells))
replaced f lists level cells old e long low =
    let whole : length old ≡ 16 = sym (ap length e) ∙ length-map lists f ∙ long in
    let moved : map f (set lists level cells) ≡ set old level (f cells) = map-set f lists level cells
    ∙ ap (λ l. set l level (f cells)) e in
    record {
      here = ap (λ l. get_or l level []) moved ∙ get_or-set_same old level (f cells) [] (omega (arith, whole));
      others = λ other ne. ap (λ l. get_or l other []) moved ∙ get_or-set_other old level other (f cells) [] ne;
    }

-- the list at a level
pub list_at : {V : Type 0} (f : V → List ℕ) (lists : List V) (level : ℕ) (d : V) (old : List (List ℕ))
    → map f lists ≡ old → level < length lists → f (get_or lists level d) ≡ waiting_at old level
list_at f lists level d old e low = sym (get_or-map f lists level d [] low) ∙ ap (λ l. get_or l level []) e

-- empty lists hold nothing
pub all_empty : {V : Type 0} (f : V → List ℕ) (lists : List V)
    → ((k : ℕ) (d : V) → k < length lists → f (get_or lists k d) ≡ []) → (level : ℕ)
    → waiting_at (map f lists) level ≡ []
all_empty f [] empty level = get_or_past [] level [] (omega arith)
all_empty f (v ∷ vs) empty level = elim (cases_lt level (length (v ∷ vs))) [
  | inl lt ↦ get_or-map f (v ∷ vs) level v [] lt ∙ empty level v lt
  | inr le ↦ get_or_past (map f (v ∷ vs)) level [] (omega (arith, length-map (v ∷ vs) f))
]

-- the same with the new list under another name
pub replaced_as : {V : Type 0} (f : V → List ℕ) (lists : List V) (level : ℕ) (cells : V) (old : List (List ℕ))
    (now : List ℕ) → map f lists ≡ old → length lists ≡ 16 → level < 16 → f cells ≡ now
    → IsWaiting old level now (map f (set lists level cells))
replaced_as f lists level cells old now e long low is =
    subst (λ l. IsWaiting old level l (map f (set lists level cells))) is (replaced f lists level cells old e long low)

-- `count` empty lists
pub record AreEmpty (count : ℕ) (lists : List (Vec ℕ)) : Type 0 where
  pub counted : length lists ≡ count
  pub empty : (k : ℕ) (d : Vec ℕ) → k < length lists → (get_or lists k d).items ≡ []

-- one empty list more
pub empty_push : (count : ℕ) (lists : List (Vec ℕ)) (v : Vec ℕ) → AreEmpty count lists → v.items ≡ []
    → AreEmpty (count + 1) (lists ++ v ∷ [])
empty_push count lists v s e = record {
  counted = omega (arith, s.counted, length-append lists (v ∷ []));
  empty = λ k d h. (elim (cases_lt k (length lists)) [
    | inl lt ↦ ap (λ (v : Vec ℕ). v.items) (get_or_append_left lists (v ∷ []) d k lt) ∙ s.empty k d lt
    | inr le ↦ (let last : k ≡ length lists = omega (arith, length-append lists (v ∷ [])) in ap (λ (v : Vec ℕ). v.items)
        (get_or_push lists v d k (sym last)) ∙ e)
  ]);
}
