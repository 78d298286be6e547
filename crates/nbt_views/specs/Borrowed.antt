-- The values that borrowed bytes stand for, which were read once without a fault. `end` is the length of the whole
-- input, and `room` how many containers may still nest.
use Rattle.std.specs.Prelude.{ℕ, ◌≤◌, List, length, Ok, Err}
use Rattle.nbt_core.specs.declared.kind.Kind.{Kind}
use Rattle.nbt_core.specs.Value.{Nbt, list, no_items, no_members, listed}
use Rattle.nbt_core.specs.Reading.{Reads}
use Rattle.nbt_core.specs.TreeReading.{items_at, members_at, value_at}
use Rattle.nbt_core.specs.Skipping.{IsRead}
use Rattle.nbt_views.specs.Parts.{named}

-- reading meets no fault
pub record IsReadable {A : Type 0} (read : Reads A) : Type 0 where
  pub left : List ℕ
  pub whole : IsRead read left

-- the value that is read, or another where there is a fault
abbrev pub read_or : {A : Type 0} → A → Reads A → A
read_or other (Ok x) = x.0
read_or other (Err e) = other

-- the value of a payload
abbrev pub payload_value : ℕ → ℕ → Kind → List ℕ → Nbt
payload_value end room kind bytes = read_or (list no_items) (value_at end room kind bytes)

-- the values of `count` payloads
abbrev pub item_values : ℕ → ℕ → Kind → ℕ → List ℕ → List Nbt
item_values end room kind count bytes = listed (read_or no_items (items_at (value_at end room kind) count bytes))

-- the values of named payloads up to an End
abbrev pub entry_values : ℕ → ℕ → List ℕ → List (List ℕ × Nbt)
entry_values end room bytes = named (read_or no_members (members_at end (value_at end room) end bytes))

-- a payload that is read without a fault
pub record IsPayload (end room : ℕ) (kind : Kind) (bytes : List ℕ) : Type 0 where
  pub within : length bytes ≤ end
  pub shallow : room ≤ 512
  pub whole : IsReadable (value_at end room kind bytes)

-- payloads that are read without a fault
pub record ArePayloads (end room : ℕ) (kind : Kind) (count : ℕ) (bytes : List ℕ) : Type 0 where
  pub within : length bytes ≤ end
  pub shallow : room ≤ 512
  pub whole : IsReadable (items_at (value_at end room kind) count bytes)

-- named payloads that are read without a fault
pub record AreNamed (end room : ℕ) (bytes : List ℕ) : Type 0 where
  pub within : length bytes ≤ end
  pub shallow : room ≤ 512
  pub whole : IsReadable (members_at end (value_at end room) end bytes)
