-- What a `Properties` tells has each property once.
use Rattle.std.proofs.Common.{◌≡◌, ◌≢◌, ℕ, Bool, true, false, ◌||◌, List, ◌∷◌, map, All, refl, sym, ap, ◌∙◌, arith}
use Rattle.std.specs.Prelude.{if◌then◌else◌, bytes_eq, Option, Some}
use Rattle.std.proofs.lemmas.List.Elements.{All-nil, All-cons}
use Rattle.std.proofs.lemmas.List.Kept.{AllPairs-cons}
use Rattle.std.proofs.lemmas.Slice.Eq.{bytes_eq-Decides}
use Rattle.nbt_core.specs.Value.{Nbt, leaf, list, compound, Members, no_members, member, members_of}
use Rattle.nbt_core.specs.Value as values
use Rattle.nbt_views.specs.Parts.{named, entries_in}
use Rattle.scan_core.specs.Properties.{has_name, with_text, last_texts, props_of, HasEachOnce}

-- where a disjunction is false, both parts are
pub either_false : (a b : Bool) → (a || b) ≡ false → (a ≡ false) × (b ≡ false)
either_false true b e = absurd (cc)
either_false false b e = (refl, e)

-- bytes that are judged to differ do
pub differ : (xs ys : List ℕ) → bytes_eq xs ys ≡ false → xs ≢ ys
differ xs ys e p = absurd (cc ((bytes_eq-Decides xs ys).1 p))

-- the names of properties
names : List (List ℕ × List ℕ) → List (List ℕ)
names props = map (λ prop. prop.0) props

-- what holds of the others, and of them behind one more, holds with the text or without
with_text_keeps : (P : List (List ℕ × List ℕ) → Type 0) (name : List ℕ) (t : Nbt) (others : List (List ℕ × List ℕ))
    → P others → ((text : List ℕ) → P ((name, text) ∷ others)) → P (with_text name t others)
with_text_keeps P name (leaf (values.text text)) others p q = q text
with_text_keeps P name t others p q = p

-- a name that no member has is no property's
abbrev IsFree : List ℕ → List (List ℕ × List ℕ) → Type 0
IsFree name props = All (λ key. name ≢ key) (map (λ prop. prop.0) props)

-- what holds of either holds of the one that a test picks
pub picked : {X : Type 0} (P : X → Type 0) (b : Bool) (x y : X) → P x → (b ≡ false → P y) → P (if b then x else y)
picked P true x y p q = p
picked P false x y p q = q refl

-- a name that no member has is none of the properties' names
absent : (name : List ℕ) (ms : Members) → has_name name ms ≡ false → IsFree name (last_texts ms)
absent name no_members e = All-nil (λ (key : List ℕ). name ≢ key)
absent name (member key t ms) e =
    let parts = either_false (bytes_eq key name) (has_name name ms) e in
    let rest = absent name ms parts.1 in
    picked (IsFree name) (has_name key ms) (last_texts ms) (with_text key t (last_texts ms)) rest
    (λ _. with_text_keeps (IsFree name) key t (last_texts ms) rest
    (λ text. All-cons (λ (key : List ℕ). name ≢ key) key (map (λ prop. prop.0) (last_texts ms))
    (λ e. differ key name parts.0 (cc)) rest))

-- of the members of one name the last alone is kept
pub last_texts_once : (ms : Members) → HasEachOnce (last_texts ms)
last_texts_once no_members = λ i j d h k. absurd (omega arith)
last_texts_once (member key t ms) =
    let rest = last_texts_once ms in
    picked HasEachOnce (has_name key ms) (last_texts ms) (with_text key t (last_texts ms)) rest
    (λ e. with_text_keeps HasEachOnce key t (last_texts ms) rest
    (λ text. AllPairs-cons (λ (a b : List ℕ). a ≢ b) key (map (λ prop. prop.0) (last_texts ms)) (absent key ms e) rest))

-- a state has each property at most once
pub props_of_once : (found : Option Nbt) → HasEachOnce (props_of found)
props_of_once (Some (compound ms)) = last_texts_once ms
props_of_once found = λ i j d h k. absurd (omega arith)

-- ---- a compound's entries as its members

-- members made of names and values are the members again
members_of-named : (ms : Members) → members_of (named ms) ≡ ms
members_of-named no_members = refl
members_of-named (member name t ms) = ap (member name t) (members_of-named ms)

-- the texts of the entries of a value
entries_told : (value : Nbt) (entries : List (List ℕ × Nbt)) → Some entries ≡ entries_in value
    → last_texts (members_of entries) ≡ props_of (Some value)
entries_told (compound ms) entries e =
    let same : entries ≡ named ms = cc in
    ap last_texts (ap members_of same ∙ members_of-named ms)
entries_told (leaf v) entries e = absurd (cc)
entries_told (list ts) entries e = absurd (cc)

-- the texts of the entries of a `Properties` that was found
pub props_told : (found : Option Nbt) (value : Nbt) (entries named_entries : List (List ℕ × Nbt)) → found ≡ Some value
    → Some entries ≡ entries_in value → named_entries ≡ entries
    → last_texts (members_of named_entries) ≡ props_of found
props_told found value entries named_entries f e same =
    ap (λ (ms : List (List ℕ × Nbt)). last_texts (members_of ms)) same ∙ entries_told value entries e
    ∙ ap props_of (sym f)
