-- Reading lists and compounds, and a whole input.
use Rattle.std.specs.Prelude.{ℕ, zero, suc, ◌-◌, List, [], ◌∷◌, length, Bool, false, Option, Some, None, Result, Ok}
use Rattle.std.specs.Prelude.{Err, ◌==◌, ◌&&◌, if◌then◌else◌}
use Rattle.nbt_core.specs.declared.fault.NbtFault.{NbtFault}
use Rattle.nbt_core.specs.declared.fault.NbtFault.TheVariants.{Compressed, Truncated, NotCompound, BadLength, TooDeep}
use Rattle.nbt_core.specs.declared.kind.Kind.{Kind}
use Rattle.nbt_core.specs.declared.kind.Kind.TheVariants as kinds
use Rattle.nbt_core.specs.Value.{Nbt, leaf, list, compound, Items, no_items, item, Members, no_members, member}
use Rattle.nbt_core.specs.Reading.{Reads, ◌>>=◌, mapped, text_at, kind_at, count_at}
use Rattle.nbt_core.specs.LeafReading.{leaf_at}

-- a given number of payloads, each by the same reader
unfoldable pub items_at : (List ℕ → Reads Nbt) → ℕ → List ℕ → Reads Items
items_at one zero bytes = Ok (no_items, bytes)
items_at one (suc n) bytes = do
  first ← one bytes
  mapped (λ others. item first.0 others) (items_at one n first.1)

-- one answer where there is no kind, and one for each kind
abbrev pub by_kind : {A : Type 0} → Option Kind → A → (Kind → A) → A
by_kind None none some = none
by_kind (Some kind) none some = some kind

-- named payloads up to an End, fewer than a given number
unfoldable pub members_at : ℕ → (Kind → List ℕ → Reads Nbt) → ℕ → List ℕ → Reads Members
members_at end inner zero bytes = Err (Truncated end)
members_at end inner (suc fuel) bytes = do
  kind ← kind_at end bytes
  by_kind kind.0 (Ok (no_members, kind.1)) λ k. do
    name ← text_at end kind.1
    first ← inner k name.1
    mapped (λ others. member name.0 first.0 others) (members_at end inner fuel first.1)

-- a kind, a count, and that number of payloads
unfoldable pub list_at : ℕ → (Kind → List ℕ → Reads Nbt) → List ℕ → Reads Nbt
list_at end inner bytes = do
  kind ← kind_at end bytes
  count ← count_at end kind.1
  by_kind kind.0 (if count.0 == 0 then Ok (list no_items, count.1) else Err (BadLength (end - length kind.1)))
      λ k. mapped list (items_at (inner k) count.0 count.1)

-- named payloads up to an End
unfoldable pub compound_at : ℕ → (Kind → List ℕ → Reads Nbt) → List ℕ → Reads Nbt
compound_at end inner bytes = mapped compound (members_at end inner (length bytes) bytes)

-- a payload, where `room` containers may still nest
unfoldable pub value_at : ℕ → ℕ → Kind → List ℕ → Reads Nbt
value_at end zero (kinds.Leaf kind) bytes = mapped leaf (leaf_at end kind bytes)
value_at end zero kinds.List bytes = Err (TooDeep (end - length bytes))
value_at end zero kinds.Compound bytes = Err (TooDeep (end - length bytes))
value_at end (suc room) (kinds.Leaf kind) bytes = mapped leaf (leaf_at end kind bytes)
value_at end (suc room) kinds.List bytes = list_at end (value_at end room) bytes
value_at end (suc room) kinds.Compound bytes = compound_at end (value_at end room) bytes

-- a named root, after its id
unfoldable pub named_at : ℕ → List ℕ → Result Nbt NbtFault
named_at end bytes = do
  name ← text_at end bytes
  root ← value_at end 512 kinds.Compound name.1
  Ok root.0

-- the first two bytes of gzip data
abbrev pub starts_compressed : List ℕ → Bool
starts_compressed (a ∷ b ∷ rest) = (a == 31) && (b == 139)
starts_compressed _ = false

-- a whole input
unfoldable pub root_at : List ℕ → Result Nbt NbtFault
root_at [] = Err (Truncated 0)
root_at (id ∷ rest) =
    if starts_compressed (id ∷ rest) then Err Compressed
    else if id == 10 then named_at (suc (length rest)) rest
    else Err NotCompound
