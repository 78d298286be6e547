-- The properties of a block state: the Strings of its `Properties`. Of entries with one name the last counts,
-- and then its type: one that is no String counts as absent, and so does a `Properties` that is no compound.
-- Source: Minecraft Wiki, "Structure file"; what counts as absent, and that the last entry counts, is this project's
-- own.
use Rattle.std.specs.Prelude.{◌≢◌, ℕ, Bool, false, ◌||◌, List, [], ◌∷◌, map, AllPairs, bytes_eq, Option, Some}
use Rattle.std.specs.Prelude.{if◌then◌else◌}
use Rattle.nbt_core.specs.Value.{Nbt, leaf, list, compound, Members, no_members, member}
use Rattle.nbt_core.specs.Value as values

-- some member has this name
abbrev pub has_name : List ℕ → Members → Bool
has_name name no_members = false
has_name name (member key t ms) = bytes_eq key name || has_name name ms

-- a String beside its name, before others
abbrev pub with_text : List ℕ → Nbt → List (List ℕ × List ℕ) → List (List ℕ × List ℕ)
with_text name (leaf (values.text t)) others = (name, t) ∷ others
with_text name t others = others

-- the members that are the last of their name, where they are Strings
abbrev pub last_texts : Members → List (List ℕ × List ℕ)
last_texts no_members = []
last_texts (member name t ms) = if has_name name ms then last_texts ms else with_text name t (last_texts ms)

-- the properties that the field tells
abbrev pub props_of : Option Nbt → List (List ℕ × List ℕ)
props_of (Some (compound ms)) = last_texts ms
props_of found = []

-- no two properties have one name
abbrev pub HasEachOnce : List (List ℕ × List ℕ) → Type 0
HasEachOnce props = AllPairs (λ a b. a ≢ b) (map (λ prop. prop.0) props)
