-- Reading the values that hold no others.
use Rattle.std.specs.Prelude.{ℕ, zero, suc, ◌-◌, ◌*◌, ℤ, pos, negsuc, List, [], ◌∷◌, length, drop, Err}
use Rattle.byteorder.specs.Endian.{big_number}
use Rattle.std.specs.Int.{Width, w8, w16, w32, w64, cast_signed}
use Rattle.nbt_core.specs.declared.fault.NbtFault.TheVariants.{BadLength}
use Rattle.nbt_core.specs.declared.kind.LeafKind.{LeafKind}
use Rattle.nbt_core.specs.declared.kind.LeafKind.TheVariants as leaves
use Rattle.nbt_core.specs.Reading.{Reads, ◌>>=◌, mapped, run_at, signed_at, int_at, text_at}
use Rattle.nbt_core.specs.Value as values

-- the first numbers of a run, as many as asked for, each of `size` bytes
unfoldable pub numbers_in : Width → ℕ → ℕ → List ℕ → List ℤ
numbers_in width size zero run = []
numbers_in width size (suc n) run = cast_signed width (big_number size run) ∷ numbers_in width size n (drop size run)

-- one answer for a number below 0, and one for each other
abbrev pub by_sign : {A : Type 0} → ℤ → A → (ℕ → A) → A
by_sign (negsuc n) below others = below
by_sign (pos n) below others = others n

-- a count, and the bytes of that number of numbers, each of `size` bytes
unfoldable pub counted_at : ℕ → ℕ → List ℕ → Reads (ℕ × List ℕ)
counted_at end size bytes = do
  n ← int_at end bytes
  by_sign n.0 (Err (BadLength (end - length bytes)))
      λ count. mapped (λ run. (count, run)) (run_at end (size * count) n.1)

-- a count, and that number of numbers
unfoldable pub array_at : ℕ → Width → ℕ → List ℕ → Reads (List ℤ)
array_at end width size bytes = mapped (λ run. numbers_in width size run.0 run.1) (counted_at end size bytes)

-- a payload that holds no other
unfoldable pub leaf_at : ℕ → LeafKind → List ℕ → Reads values.Leaf
leaf_at end leaves.Byte bytes = mapped values.byte (signed_at end w8 1 bytes)
leaf_at end leaves.Short bytes = mapped values.short (signed_at end w16 2 bytes)
leaf_at end leaves.Int bytes = mapped values.int (signed_at end w32 4 bytes)
leaf_at end leaves.Long bytes = mapped values.long (signed_at end w64 8 bytes)
leaf_at end leaves.Float bytes = mapped values.float (run_at end 4 bytes)
leaf_at end leaves.Double bytes = mapped values.double (run_at end 8 bytes)
leaf_at end leaves.ByteArray bytes = mapped values.byte_array (array_at end w8 1 bytes)
leaf_at end leaves.Text bytes = mapped values.text (text_at end bytes)
leaf_at end leaves.IntArray bytes = mapped values.int_array (array_at end w32 4 bytes)
leaf_at end leaves.LongArray bytes = mapped values.long_array (array_at end w64 8 bytes)
