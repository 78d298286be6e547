-- Reading from left to right, with the first fault that is met: the pieces that values are made of. `end` is
-- the length of the whole input, so a place is `end` less the bytes that are left there.
use Rattle.std.specs.Prelude.{◌≡◌, ℕ, suc, ◌-◌, ℤ, List, [], ◌∷◌, length, take, drop, Option, Some, None, Result, Ok}
use Rattle.std.specs.Prelude.{Err, nat_lt, if◌then◌else◌}
use Rattle.byteorder.specs.Endian.{big_number}
use Rattle.std.specs.Int.{Width, w32, cast_signed}
use Rattle.nbt_core.specs.declared.fault.NbtFault.{NbtFault}
use Rattle.nbt_core.specs.declared.fault.NbtFault.TheVariants.{Truncated, BadTag, OutOfMemory}
use Rattle.nbt_core.specs.declared.kind.Kind.{Kind}
use Rattle.nbt_core.specs.Ids.{kind_named}
use Rattle.nbt_core.specs.Value.{natural}

-- a value and the bytes after it, or the fault
abbrev pub Reads : Type 0 → Type 0
Reads A = Result (A × List ℕ) NbtFault

-- a step, and then another that uses what the first gave
infixl 10 ◌>>=◌
abbrev pub ◌>>=◌ : {A B : Type 0} → Result A NbtFault → (A → Result B NbtFault) → Result B NbtFault
(Ok x) >>= f = f x
(Err e) >>= f = Err e

-- the reading with its value changed
abbrev pub mapped : {A B : Type 0} → (A → B) → Reads A → Reads B
mapped f (Ok x) = Ok (f x.0, x.1)
mapped f (Err e) = Err e

-- what reading gives is this fault, unless memory ran out
abbrev pub Fails : {Y : Type 0} → NbtFault → Result Y NbtFault → Type 0
Fails OutOfMemory read = Unit {0}
Fails fault read = read ≡ Err fault

-- what a reader returned, seen by view, and what it left, is what reading gives, unless memory ran out
abbrev pub Gives : {X Y : Type 0} → (X → Y) → Result X NbtFault → List ℕ → Reads Y → Type 0
Gives view (Ok x) left read = read ≡ Ok (view x, left)
Gives view (Err e) left read = Fails e read

-- what a call that leaves nothing to read on returned is what reading gives, unless memory ran out
abbrev pub GivesWhole : {X Y : Type 0} → (X → Y) → Result X NbtFault → Result Y NbtFault → Type 0
GivesWhole view (Ok x) read = read ≡ Ok (view x)
GivesWhole view (Err e) read = Fails e read

-- the first n bytes
unfoldable pub run_at : ℕ → ℕ → List ℕ → Reads (List ℕ)
run_at end n bytes = if nat_lt (length bytes) n then Err (Truncated end) else Ok (take n bytes, drop n bytes)

-- a number of `size` bytes
unfoldable pub signed_at : ℕ → Width → ℕ → List ℕ → Reads ℤ
signed_at end width size bytes = mapped (λ run. cast_signed width (big_number size run)) (run_at end size bytes)

-- an Int
abbrev pub int_at : ℕ → List ℕ → Reads ℤ
int_at end bytes = signed_at end w32 4 bytes

-- a length of two bytes, and that number of bytes
unfoldable pub text_at : ℕ → List ℕ → Reads (List ℕ)
text_at end bytes = do
  size ← run_at end 2 bytes
  run_at end (big_number 2 size.0) size.1

-- the kind, or else the fault that the id names nothing
abbrev pub kind_or : ℕ → ℕ → List ℕ → Option (Option Kind) → Reads (Option Kind)
kind_or end id rest None = Err (BadTag (end - suc (length rest)) id)
kind_or end id rest (Some kind) = Ok (kind, rest)

-- an id, as the kind that it names; End names none
unfoldable pub kind_at : ℕ → List ℕ → Reads (Option Kind)
kind_at end [] = Err (Truncated end)
kind_at end (id ∷ rest) = kind_or end id rest (kind_named id)

-- the count of a list: one below 0 counts nothing
unfoldable pub count_at : ℕ → List ℕ → Reads ℕ
count_at end bytes = mapped natural (int_at end bytes)
