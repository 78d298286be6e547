-- Which fault comes first in bytes that are no root: some front is well formed, and the next piece breaks.
-- `end` is the length of the whole input, so a place is `end` less the bytes that are left there.
-- The faults and their order are this project's own.
use Rattle.std.specs.Prelude.{◌≡◌, ◌≢◌, ◌<◌, ◌-◌, ◌*◌, ◌⊎◌, ℕ, zero, suc, ℤ, pos, negsuc, List, [], length, Option}
use Rattle.std.specs.Prelude.{Some}
use Rattle.nbt_core.specs.declared.fault.NbtFault.{NbtFault}
use Rattle.nbt_core.specs.declared.fault.NbtFault.TheVariants.{Compressed, Truncated, BadTag, NotCompound, BadLength}
use Rattle.nbt_core.specs.declared.fault.NbtFault.TheVariants.{TooDeep}
use Rattle.nbt_core.specs.declared.kind.Kind.{Kind}
use Rattle.nbt_core.specs.declared.kind.Kind.TheVariants as kinds
use Rattle.nbt_core.specs.declared.kind.LeafKind.{LeafKind}
use Rattle.nbt_core.specs.declared.kind.LeafKind.TheVariants as leaves
use Rattle.nbt_core.specs.Ids.{id_of, id_of_items}
use Rattle.nbt_core.specs.Value.{Items, Members, count_of, natural}
use Rattle.nbt_core.specs.Spelling.{◌▷◌, Anything, IsByte, IsInt, IsSize, IsText, AreItems, AreMembers}

-- fewer than n bytes are left
abbrev pub IsShort : ℕ → NbtFault → ℕ → List ℕ → Type 0
IsShort end fault n bytes = (length bytes < n) × (fault ≡ Truncated end)

-- a text: no length, or too few bytes
abbrev pub BreaksText : ℕ → NbtFault → List ℕ → Type 0
BreaksText end fault bytes = IsShort end fault 2 bytes ⊎ ((n : ℕ) × (IsSize n ▷ IsShort end fault n) bytes)

-- an array of numbers of `size` bytes each: no count, a negative one, or too few bytes
abbrev pub BreaksArray : ℕ → NbtFault → ℕ → List ℕ → Type 0
BreaksArray end fault size bytes = IsShort end fault 4 bytes
    ⊎ ((n : ℕ) × (IsInt (negsuc n) ▷ Anything) bytes × (fault ≡ BadLength (end - length bytes)))
    ⊎ ((n : ℕ) × (IsInt (pos n) ▷ IsShort end fault (size * n)) bytes)

-- a payload that holds no other, by its kind
abbrev pub BreaksLeaf : ℕ → NbtFault → LeafKind → List ℕ → Type 0
BreaksLeaf end fault leaves.Byte bytes = IsShort end fault 1 bytes
BreaksLeaf end fault leaves.Short bytes = IsShort end fault 2 bytes
BreaksLeaf end fault leaves.Int bytes = IsShort end fault 4 bytes
BreaksLeaf end fault leaves.Long bytes = IsShort end fault 8 bytes
BreaksLeaf end fault leaves.Float bytes = IsShort end fault 4 bytes
BreaksLeaf end fault leaves.Double bytes = IsShort end fault 8 bytes
BreaksLeaf end fault leaves.ByteArray bytes = BreaksArray end fault 1 bytes
BreaksLeaf end fault leaves.Text bytes = BreaksText end fault bytes
BreaksLeaf end fault leaves.IntArray bytes = BreaksArray end fault 4 bytes
BreaksLeaf end fault leaves.LongArray bytes = BreaksArray end fault 8 bytes

-- no id, or one that names nothing
abbrev pub BreaksKind : ℕ → NbtFault → List ℕ → Type 0
BreaksKind end fault bytes = IsShort end fault 1 bytes
    ⊎ ((id : ℕ) × ((kind : Option Kind) → id ≢ id_of_items kind)
    × (IsByte id ▷ Anything) bytes × (fault ≡ BadTag (end - length bytes) id))

-- a count of Ends above 0
abbrev pub BreaksEnds : ℕ → NbtFault → List ℕ → Type 0
BreaksEnds end fault bytes = (n : ℤ) × (0 < natural n)
    × (IsInt n ▷ Anything) bytes × (fault ≡ BadLength (end - length bytes))

-- a named payload, where `Inner` says how a payload breaks
abbrev pub BreaksMember : ℕ → NbtFault → (Kind → List ℕ → Type 0) → List ℕ → Type 0
BreaksMember end fault Inner bytes = BreaksKind end fault bytes
    ⊎ ((kind : Kind) × (IsByte (id_of kind) ▷ BreaksText end fault) bytes)
    ⊎ ((kind : Kind) × (name : List ℕ) × (IsByte (id_of kind) ▷ IsText name ▷ Inner kind) bytes)

-- a list whose items have this depth: its id, its count, Ends that it counts, or an item after some whole ones
abbrev pub BreaksList : ℕ → NbtFault → ℕ → (Kind → List ℕ → Type 0) → List ℕ → Type 0
BreaksList end fault depth Inner bytes = BreaksKind end fault bytes
    ⊎ ((of : Option Kind) × (IsByte (id_of_items of) ▷ IsShort end fault 4) bytes)
    ⊎ (IsByte 0 ▷ BreaksEnds end fault) bytes
    ⊎ ((kind : Kind) × (n : ℤ) × (done : Items) × (count_of done < natural n)
    × (IsByte (id_of kind) ▷ IsInt n ▷ AreItems (Some kind) done depth ▷ Inner kind) bytes)

-- a compound whose members have this depth: a member after some whole ones, or no End
abbrev pub BreaksCompound : ℕ → NbtFault → ℕ → (Kind → List ℕ → Type 0) → List ℕ → Type 0
BreaksCompound end fault depth Inner bytes = (done : Members)
    × (AreMembers done depth ▷ BreaksMember end fault Inner) bytes

-- a payload at this depth, where `room` containers may still nest: one too many is refused before its first piece
unfoldable pub Breaks : ℕ → NbtFault → ℕ → ℕ → Kind → List ℕ → Type 0
Breaks end fault zero depth (kinds.Leaf kind) bytes = BreaksLeaf end fault kind bytes
Breaks end fault zero depth kinds.List bytes = fault ≡ TooDeep (end - length bytes)
Breaks end fault zero depth kinds.Compound bytes = fault ≡ TooDeep (end - length bytes)
Breaks end fault (suc room) depth (kinds.Leaf kind) bytes = BreaksLeaf end fault kind bytes
Breaks end fault (suc room) depth kinds.List bytes =
    BreaksList end fault (suc depth) (Breaks end fault room (suc depth)) bytes
Breaks end fault (suc room) depth kinds.Compound bytes =
    BreaksCompound end fault (suc depth) (Breaks end fault room (suc depth)) bytes

-- a root after its id: its name, or its payload
abbrev pub BreaksNamed : ℕ → NbtFault → List ℕ → Type 0
BreaksNamed end fault bytes = BreaksText end fault bytes
    ⊎ ((name : List ℕ) × (IsText name ▷ Breaks end fault 512 1 kinds.Compound) bytes)

-- bytes that begin as gzip data
abbrev pub IsCompressed : List ℕ → Type 0
IsCompressed = IsByte 31 ▷ IsByte 139 ▷ Anything

-- the fault of a whole input
abbrev pub FaultOf : List ℕ → NbtFault → Type 0
FaultOf bytes fault = ((bytes ≡ []) × (fault ≡ Truncated 0))
    ⊎ (IsCompressed bytes × (fault ≡ Compressed))
    ⊎ ((bytes ≢ []) × (IsCompressed bytes → ⊥) × ((IsByte 10 ▷ Anything) bytes → ⊥) × (fault ≡ NotCompound))
    ⊎ (IsByte 10 ▷ BreaksNamed (length bytes) fault) bytes
