-- Passing over payloads.
use Rattle.std.specs.Prelude.{◌≡◌, ◌+◌, List, ℕ, Some, Result, Ok, Err}
use Rattle.nbt_core.specs.declared.fault.NbtFault.{NbtFault}
use Rattle.nbt_core.specs.declared.kind.Kind.TheVariants as kinds
use Rattle.nbt_core.specs.declared.kind.LeafKind.TheVariants as leaves
use Rattle.nbt_core.specs.Reading.{Reads, Fails, count_at, kind_at, text_at}

-- reading gives this value, and leaves these bytes
pub record IsRead {A : Type 0} (read : Reads A) (left : List ℕ) : Type 0 where
  pub value : A
  pub is : read ≡ Ok (value, left)

-- what a reader passed over and what it left is what reading gives, unless memory ran out
abbrev pub Skips : {X A : Type 0} → Result X NbtFault → List ℕ → Reads A → Type 0
Skips (Ok x) left read = IsRead read left
Skips (Err e) left read = Fails e read

-- a list of `count` Ints whose items are still to come
pub record AreInts (end room count : ℕ) (bytes items : List ℕ) : Type 0 where
  pub less : ℕ
  pub deep : room ≡ less + 1
  pub after_kind : List ℕ
  pub kinded : kind_at end bytes ≡ Ok (Some (kinds.Leaf leaves.Int), after_kind)
  pub counted : count_at end after_kind ≡ Ok (count, items)

-- a name and a payload were passed over
pub record IsPassed {A : Type 0} (end : ℕ) (one : List ℕ → Reads A) (bytes left : List ℕ) : Type 0 where
  pub name : List ℕ
  pub payload : List ℕ
  pub named : text_at end bytes ≡ Ok (name, payload)
  pub whole : IsRead (one payload) left
