-- The fields of a compound under several names, found in one walk.
use Rattle.std.specs.Prelude.{◌≡◌, ℕ, List, [], ◌∷◌, Option, Some, None, Result, Ok, Err}
use Rattle.nbt_core.specs.Value.{Nbt, Members, field, last_named}
use Rattle.nbt_core.specs.declared.fault.NbtFault.{NbtFault}

-- the fields of these two names
abbrev pub two_fields : List ℕ → List ℕ → Nbt → Option Nbt × Option Nbt
two_fields a b t = (field a t, field b t)

-- the fields of these four names
abbrev pub four_fields : List ℕ → List ℕ → List ℕ → List ℕ → Nbt → Option Nbt × Option Nbt × Option Nbt × Option Nbt
four_fields a b c d t = (field a t, field b t, field c t, field d t)

-- the last of the members with each of these two names
abbrev pub two_named : List ℕ → List ℕ → Members → Option Nbt × Option Nbt
two_named a b ms = (last_named a ms, last_named b ms)

-- the last of the members with each of these four names
abbrev pub four_named : List ℕ → List ℕ → List ℕ → List ℕ → Members
    → Option Nbt × Option Nbt × Option Nbt × Option Nbt
four_named a b c d ms = (last_named a ms, last_named b ms, last_named c ms, last_named d ms)

-- the fields of these two names of what is taken from the front of a list, and the list that is left; none are taken
-- from a list of nothing
abbrev pub AreFieldsOfFront : List ℕ → List ℕ → List Nbt → Option (Option Nbt × Option Nbt) → List Nbt → Type 0
AreFieldsOfFront a b old (Some found) new = (item : Nbt) × (old ≡ item ∷ new) × (found ≡ two_fields a b item)
AreFieldsOfFront a b old None new = (old ≡ []) × (new ≡ [])

-- what reading a whole input gives, with its value changed
abbrev pub changed : {A B : Type 0} → (A → B) → Result A NbtFault → Result B NbtFault
changed f (Ok x) = Ok (f x)
changed f (Err e) = Err e
