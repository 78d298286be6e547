-- Which bytes spell which value: a grammar, in which P ▷ Q is some front that is P, and then Q.
-- Source: Minecraft Wiki, "NBT format". The depth limit of 512, and that a list with a count of 0 or less
-- is empty whatever its id, are this project's own.
use Rattle.std.specs.Prelude.{◌≡◌, ◌≤◌, ℕ, suc, ℤ, pos, List, [], ◌∷◌, ◌++◌, length, Option, Some, None}
use Rattle.std.specs.Int.{Width, w8, w16, w32, w64, cast_signed}
use Rattle.byteorder.specs.Endian.{big_number}
use Rattle.nbt_core.specs.declared.kind.Kind.{Kind}
use Rattle.nbt_core.specs.declared.kind.Kind.TheVariants as kinds
use Rattle.nbt_core.specs.declared.kind.LeafKind.{LeafKind}
use Rattle.nbt_core.specs.declared.kind.LeafKind.TheVariants as leaves
use Rattle.nbt_core.specs.Ids.{id_of, id_of_items}
use Rattle.nbt_core.specs.Value.{Leaf, byte, short, int, long, float, double, byte_array, text, int_array, long_array}
use Rattle.nbt_core.specs.Value.{Nbt, leaf, list, compound, Items, no_items, item, Members, no_members, member}
use Rattle.nbt_core.specs.Value.{count_of, natural}

-- bytes of which some front is P, and the rest Q
infixr 5 ◌▷◌
pub record ◌▷◌ (P Q : List ℕ → Type 0) (bytes : List ℕ) : Type 0 where
  pub front : List ℕ
  pub rest : List ℕ
  pub parts : bytes ≡ front ++ rest
  pub first : P front
  pub second : Q rest

-- any bytes at all
abbrev pub Anything : List ℕ → Type 0
Anything bytes = Unit {0}

-- this byte alone
abbrev pub IsByte : ℕ → List ℕ → Type 0
IsByte b bytes = bytes ≡ b ∷ []

-- ---- the values that hold no others

-- `size` bytes, the highest first, in two's complement of this width
abbrev pub IsSigned : Width → ℕ → ℤ → List ℕ → Type 0
IsSigned width size n bytes = (length bytes ≡ size) × (cast_signed width (big_number size bytes) ≡ n)

-- an Int: a number of four bytes
abbrev pub IsInt : ℤ → List ℕ → Type 0
IsInt = IsSigned w32 4

-- two bytes, the highest first, without a sign
abbrev pub IsSize : ℕ → List ℕ → Type 0
IsSize n bytes = (length bytes ≡ 2) × (big_number 2 bytes ≡ n)

-- a length of two bytes, and that number of bytes
abbrev pub IsText : List ℕ → List ℕ → Type 0
IsText name = IsSize (length name) ▷ λ bytes. bytes ≡ name

-- bytes that are kept as they are
abbrev pub IsRun : ℕ → List ℕ → List ℕ → Type 0
IsRun size run bytes = (length bytes ≡ size) × (bytes ≡ run)

-- numbers, one after another
abbrev pub AreSigned : Width → ℕ → List ℤ → List ℕ → Type 0
AreSigned width size [] bytes = bytes ≡ []
AreSigned width size (n ∷ ns) bytes = (IsSigned width size n ▷ AreSigned width size ns) bytes

-- a count, which isn't negative, and that number of numbers
abbrev pub IsArray : Width → ℕ → List ℤ → List ℕ → Type 0
IsArray width size ns = IsInt (pos (length ns)) ▷ AreSigned width size ns

-- the bytes are a payload of this kind, with this value
abbrev pub SpellsLeaf : LeafKind → Leaf → List ℕ → Type 0
SpellsLeaf kind (byte n) bytes = (kind ≡ leaves.Byte) × IsSigned w8 1 n bytes
SpellsLeaf kind (short n) bytes = (kind ≡ leaves.Short) × IsSigned w16 2 n bytes
SpellsLeaf kind (int n) bytes = (kind ≡ leaves.Int) × IsSigned w32 4 n bytes
SpellsLeaf kind (long n) bytes = (kind ≡ leaves.Long) × IsSigned w64 8 n bytes
SpellsLeaf kind (float run) bytes = (kind ≡ leaves.Float) × IsRun 4 run bytes
SpellsLeaf kind (double run) bytes = (kind ≡ leaves.Double) × IsRun 8 run bytes
SpellsLeaf kind (byte_array ns) bytes = (kind ≡ leaves.ByteArray) × IsArray w8 1 ns bytes
SpellsLeaf kind (text t) bytes = (kind ≡ leaves.Text) × IsText t bytes
SpellsLeaf kind (int_array ns) bytes = (kind ≡ leaves.IntArray) × IsArray w32 4 ns bytes
SpellsLeaf kind (long_array ns) bytes = (kind ≡ leaves.LongArray) × IsArray w64 8 ns bytes

-- ---- all values

abbrev mutual
  -- the bytes are a payload of this kind, with this value, where a container has this depth
  pub Spells : Kind → Nbt → ℕ → List ℕ → Type 0
  Spells kind (leaf v) depth bytes = (of : LeafKind) × (kind ≡ kinds.Leaf of) × SpellsLeaf of v bytes
  Spells kind (list ts) depth bytes = (kind ≡ kinds.List) × (depth ≤ 512)
      × (of : Option Kind) × (n : ℤ) × (natural n ≡ count_of ts)
      × (IsByte (id_of_items of) ▷ IsInt n ▷ AreItems of ts (suc depth)) bytes
  Spells kind (compound ms) depth bytes = (kind ≡ kinds.Compound) × (depth ≤ 512)
      × (AreMembers ms (suc depth) ▷ IsByte 0) bytes

  -- payloads of this kind, one after another; End has none
  pub AreItems : Option Kind → Items → ℕ → List ℕ → Type 0
  AreItems of no_items depth bytes = bytes ≡ []
  AreItems None (item t ts) depth bytes = ⊥
  AreItems (Some kind) (item t ts) depth bytes = (Spells kind t depth ▷ AreItems (Some kind) ts depth) bytes

  -- an id, a name and a payload for each member, one after another
  pub AreMembers : Members → ℕ → List ℕ → Type 0
  AreMembers no_members depth bytes = bytes ≡ []
  AreMembers (member name t ms) depth bytes = (kind : Kind)
      × (IsByte (id_of kind) ▷ IsText name ▷ Spells kind t depth ▷ AreMembers ms depth) bytes

-- the bytes are a root with this value: a compound with some name
abbrev pub SpellsRoot : Nbt → List ℕ → Type 0
SpellsRoot t bytes = (name : List ℕ) × (IsByte 10 ▷ IsText name ▷ Spells kinds.Compound t 1) bytes

-- a front of the bytes is a root with this value
abbrev pub Root : List ℕ → Nbt → Type 0
Root bytes t = (SpellsRoot t ▷ Anything) bytes
