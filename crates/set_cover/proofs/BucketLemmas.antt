-- Lists by a key.
use Rattle.std.proofs.Common.{◌≡◌, ℕ, ◌+◌, ◌<◌, List, [], ◌∷◌, ◌++◌, length, map, set, get_or, sym, ap, subst, ◌∙◌}
use Rattle.std.proofs.Common.{arith, inl, inr, length-append, length-set, get_or-set_same, get_or-set_other}
use Rattle.std.specs.Global.{Vec}
use Rattle.std.proofs.lemmas.Bool.{cases_lt, cases_eq}
use Rattle.std.proofs.lemmas.List.{map-set, length-map, get_or_past, get_or-map, get_or_push, get_or_append_left}
use Rattle.cave_model.proofs.ListingLemmas.{ListsBelow, lists_skip, lists_push, lists_all}
use Rattle.set_cover.specs.Buckets.{bucket, AreNone, IsPushed, AreBucketsOf}

-- ---- the type

-- one list is replaced
pub pushed : (lists : List (Vec ℕ)) (key item : ℕ) (list : Vec ℕ) (old : List (List ℕ)) → map (λ v. v.items) lists ≡ old
    → key < length lists → list.items ≡ bucket old key ++ item ∷ []
    → IsPushed old key item (map (λ v. v.items) (set lists key list))
pushed lists key item list old e h is = record {
  whole = length-map (set lists key list) items ∙ length-set lists key list ∙ sym (length-map lists items)
      ∙ ap length e;
  here = ap (λ (l : List (List ℕ)). bucket l key) moved ∙ get_or-set_same old key list.items [] inside ∙ is;
  others = λ other ne. ap (λ (l : List (List ℕ)). bucket l other) moved
      ∙ get_or-set_other old key other list.items [] ne;
}
  where
    items : Vec ℕ → List ℕ
    items v = v.items

    inside : key < length old
    inside = omega (arith, ap length e, length-map lists items)

    moved : map items (set lists key list) ≡ set old key list.items
    moved = map-set items lists key list ∙ ap (λ (l : List (List ℕ)). set l key list.items) e

-- the list at a key
pub list_at : (lists : List (Vec ℕ)) (key : ℕ) (d : Vec ℕ) (old : List (List ℕ)) → map (λ v. v.items) lists ≡ old
    → key < length lists → (get_or lists key d).items ≡ bucket old key
list_at lists key d old e h = sym (get_or-map (λ (v : Vec ℕ). v.items) lists key d [] h)
    ∙ ap (λ (l : List (List ℕ)). get_or l key []) e

-- `count` empty lists
pub record AreEmptyLists (count : ℕ) (lists : List (Vec ℕ)) : Type 0 where
  pub counted : length lists ≡ count
  pub empty : (k : ℕ) (d : Vec ℕ) → k < length lists → (get_or lists k d).items ≡ []

-- one empty list more
pub empty_push : (count : ℕ) (lists : List (Vec ℕ)) (v : Vec ℕ) → AreEmptyLists count lists → v.items ≡ []
    → AreEmptyLists (count + 1) (lists ++ v ∷ [])
empty_push count lists v s e = record {
  counted = omega (arith, s.counted, length-append lists (v ∷ []));
  empty = λ k d h. (elim (cases_lt k (length lists)) [
    | inl lt ↦ ap (λ (v : Vec ℕ). v.items) (get_or_append_left lists (v ∷ []) d k lt) ∙ s.empty k d lt
    | inr le ↦ (let last : k ≡ length lists = omega (arith, length-append lists (v ∷ [])) in ap (λ (v : Vec ℕ). v.items)
        (get_or_push lists v d k (sym last)) ∙ e)
  ]);
}

-- `count` empty lists are groups with nothing in them
pub all_none : (count : ℕ) (lists : List (Vec ℕ)) → AreEmptyLists count lists → AreNone count (map (λ v. v.items) lists)
all_none count lists s = record {
  whole = length-map lists (λ (v : Vec ℕ). v.items) ∙ s.counted;
  none = none lists s.empty;
}
  where
    none : (lists : List (Vec ℕ)) → ((k : ℕ) (d : Vec ℕ) → k < length lists → (get_or lists k d).items ≡ []) → (key : ℕ)
        → bucket (map (λ v. v.items) lists) key ≡ []
    none [] empty key = get_or_past [] key [] (omega arith)
    none (v ∷ vs) empty key = elim (cases_lt key (length (v ∷ vs))) [
      | inl lt ↦ get_or-map (λ (v : Vec ℕ). v.items) (v ∷ vs) key v [] lt ∙ empty key v lt
      | inr le ↦ get_or_past (map (λ (v : Vec ℕ). v.items) (v ∷ vs)) key []
          (omega (arith, length-map (v ∷ vs) (λ (v : Vec ℕ). v.items)))
    ]

-- ---- items one after another

-- the items before this one are in their lists
pub record Grouping (Kind : ℕ → ℕ → Type 0) (count item : ℕ) (buckets : List (List ℕ)) : Type 0 where
  pub whole : length buckets ≡ count
  pub each : (key : ℕ) → ListsBelow (Kind key) item (bucket buckets key)

-- the next item joins the group of its one key
pub grouping_push : (Kind : ℕ → ℕ → Type 0) (count item key : ℕ) (old new : List (List ℕ)) → Kind key item
    → ((other : ℕ) → Kind other item → other ≡ key) → IsPushed old key item new → Grouping Kind count item old
    → Grouping Kind count (item + 1) new
grouping_push Kind count item key old new is only pushed s = record {
  whole = pushed.whole ∙ s.whole;
  each = λ other. (elim (cases_eq other key) [
    | inl e ↦ subst (λ (k : ℕ). ListsBelow (Kind k) (item + 1) (bucket new k)) (sym e)
        (subst (ListsBelow (Kind key) (item + 1)) (sym pushed.here)
        (lists_push (Kind key) item (bucket old key) (s.each key) is))
    | inr ne ↦ subst (ListsBelow (Kind other) (item + 1)) (sym (pushed.others other ne))
        (lists_skip (Kind other) item (bucket old other) (s.each other) (λ k. ne (only other k)))
  ]);
}

-- an item with no key joins none
pub grouping_skip : (Kind : ℕ → ℕ → Type 0) (count item : ℕ) (old : List (List ℕ)) → ((other : ℕ) → Kind other item → ⊥)
    → Grouping Kind count item old → Grouping Kind count (item + 1) old
grouping_skip Kind count item old none s =
    record {
      whole = s.whole;
      each = λ other. lists_skip (Kind other) item (bucket old other) (s.each other)
          (none other);
    }

-- after the last item the groups are whole
pub grouping_all : (Kind : ℕ → ℕ → Type 0) (count item : ℕ) (buckets : List (List ℕ))
    → ((key i : ℕ) → Kind key i → i < item) → Grouping Kind count item buckets → AreBucketsOf Kind count buckets
grouping_all Kind count item buckets within s =
    record { whole = s.whole; each = λ key. lists_all (Kind key) item (bucket buckets key) (within key) (s.each key) }
