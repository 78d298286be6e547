-- An entry of a compound by its kind, its name and its value, at the front of some bytes. `end` is the length of the
-- whole input.
use Rattle.std.specs.Prelude.{◌≡◌, ◌<◌, ◌≤◌, List, length, ℕ, Some, Ok}
use Rattle.nbt_core.specs.declared.kind.Kind.{Kind}
use Rattle.nbt_core.specs.Value.{Nbt}
use Rattle.nbt_core.specs.Reading.{Reads, kind_at, text_at}

-- an entry of this kind and this name, and its payload with what comes after it
pub record IsHead (end : ℕ) (kind : Kind) (name bytes payload : List ℕ) : Type 0 where
  pub after_kind : List ℕ
  pub kinded : kind_at end bytes ≡ Ok (Some kind, after_kind)
  pub named : text_at end after_kind ≡ Ok (name, payload)
  pub shorter : length payload < length bytes

-- an entry of this name and this value, and the bytes after it
pub record IsEntry (end : ℕ) (inner : Kind → List ℕ → Reads Nbt) (name : List ℕ) (value : Nbt) (bytes left : List ℕ)
    : Type 0 where
  pub kind : Kind
  pub payload : List ℕ
  pub head : IsHead end kind name bytes payload
  pub read : inner kind payload ≡ Ok (value, left)
  pub shorter : length left ≤ length payload
