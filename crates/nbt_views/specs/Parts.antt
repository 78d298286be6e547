-- What a value holds, by its kind.
use Rattle.std.specs.Prelude.{◌≡◌, ◌≢◌, ℕ, ℤ, pos, Bool, true, false, ◌&&◌, List, [], ◌∷◌, Option, Some, None}
use Rattle.std.specs.Prelude.{slice_index_or}
use Rattle.nbt_core.specs.Value.{int, text}
use Rattle.nbt_core.specs.Value.{Nbt, leaf, list, compound, Members, no_members, member, items_of, listed}

-- the number of an Int
abbrev pub int_of : Nbt → Option ℤ
int_of (leaf (int n)) = Some n
int_of t = None

-- the bytes of a String
abbrev pub text_of : Nbt → Option (List ℕ)
text_of (leaf (text t)) = Some t
text_of t = None

-- the items of a list
abbrev pub items_in : Nbt → Option (List Nbt)
items_in (list ts) = Some (listed ts)
items_in t = None

-- the members as a list of names with values
abbrev pub named : Members → List (List ℕ × Nbt)
named no_members = []
named (member name t ms) = (name, t) ∷ named ms

-- the names of a compound with their values
abbrev pub entries_in : Nbt → Option (List (List ℕ × Nbt))
entries_in (compound ms) = Some (named ms)
entries_in t = None

-- whether a value is a compound
abbrev pub is_compound : Nbt → Bool
is_compound (compound ms) = true
is_compound t = false

-- whether all values are compounds
abbrev pub are_compounds : List Nbt → Bool
are_compounds [] = true
are_compounds (t ∷ ts) = is_compound t && are_compounds ts

-- what is taken from the front of a list, and the list that is left; none is taken from a list of nothing
abbrev pub IsFrontOf : {X : Type 0} → List X → Option X → List X → Type 0
IsFrontOf old (Some x) new = old ≡ x ∷ new
IsFrontOf old None new = (old ≡ []) × (new ≡ [])

-- the number that is taken from the front of a list, and the list that is left; none is taken where there is no Int
abbrev pub IsIntOfFront : List Nbt → Option ℤ → List Nbt → Type 0
IsIntOfFront old (Some n) new = old ≡ leaf (int n) ∷ new
IsIntOfFront old None new = ((n : ℤ) (others : List Nbt) → old ≢ leaf (int n) ∷ others) × (new ≡ old)

-- a list of three Ints
abbrev pub three_ints : List ℤ → Nbt
three_ints ns = list (items_of (leaf (int (slice_index_or ns 0 (pos 0))) ∷ leaf (int (slice_index_or ns 1 (pos 0)))
    ∷ leaf (int (slice_index_or ns 2 (pos 0))) ∷ []))

-- a compound of two entries: a list of three Ints under the name `a`, then an Int under the name `b`
abbrev pub numbers : List ℕ → List ℕ → List ℤ → ℤ → Nbt
numbers a b ns n = compound (member a (three_ints ns) (member b (leaf (int n)) no_members))
