-- The kind of a value, and of the payload that spells it.
use Rattle.std.proofs.Common.{◌≡◌, ◌≢◌, ℕ, ◌-◌, ◌≤◌, Bool, true, false, List, Option, Some, None, Ok, IsTrue, refl}
use Rattle.std.proofs.Common.{sym, ap, ◌∙◌, arith}
use Rattle.std.specs.Prelude.{◌↔◌}
use Rattle.std.specs.Option.{option_or}
use Rattle.nbt_core.specs.declared.fault.NbtFault.{NbtFault}
use Rattle.nbt_core.specs.declared.fault.NbtFault.TheVariants.{OutOfMemory}
use Rattle.nbt_core.specs.declared.kind.Kind.{Kind}
use Rattle.nbt_core.specs.declared.kind.Kind.TheVariants as kinds
use Rattle.nbt_core.specs.declared.kind.LeafKind.{LeafKind}
use Rattle.nbt_core.specs.declared.kind.LeafKind.TheVariants as leaves
use Rattle.nbt_core.specs.Value.{Nbt, leaf, list, compound, field, last_named, members_of}
use Rattle.nbt_core.specs.Value as values
use Rattle.nbt_core.specs.Reading.{Reads, Fails}
use Rattle.nbt_core.specs.TreeReading.{value_at}
use Rattle.nbt_core.specs.Spelling.{SpellsLeaf, Spells}
use Rattle.nbt_core.proofs.Results.{err_never}
use Rattle.nbt_core.proofs.TreeLaws.{value_takes}
use Rattle.nbt_views.specs.Borrowed.{IsReadable}
use Rattle.nbt_views.specs.Parts.{int_of, text_of, items_in, entries_in, named, is_compound}

-- what is read without a fault has none
pub never : {A : Type 0} (read : Reads A) (e : NbtFault) → IsReadable read → Fails e read → e ≢ OutOfMemory → ⊥
never read OutOfMemory w fails other = other refl
never read e w fails other = err_never (w.whole.value, w.left) e (sym fails ∙ w.whole.is)

-- the kind of a leaf
abbrev pub leaf_kind : values.Leaf → LeafKind
leaf_kind (values.byte n) = leaves.Byte
leaf_kind (values.short n) = leaves.Short
leaf_kind (values.int n) = leaves.Int
leaf_kind (values.long n) = leaves.Long
leaf_kind (values.float run) = leaves.Float
leaf_kind (values.double run) = leaves.Double
leaf_kind (values.byte_array ns) = leaves.ByteArray
leaf_kind (values.text t) = leaves.Text
leaf_kind (values.int_array ns) = leaves.IntArray
leaf_kind (values.long_array ns) = leaves.LongArray

-- the kind of a value
abbrev pub kind_of : Nbt → Kind
kind_of (leaf v) = kinds.Leaf (leaf_kind v)
kind_of (list ts) = kinds.List
kind_of (compound ms) = kinds.Compound

-- bytes that spell a leaf are of its kind
leaf_spelled : (kind : LeafKind) (v : values.Leaf) (front : List ℕ) → SpellsLeaf kind v front → kind ≡ leaf_kind v
leaf_spelled kind (values.byte n) front is = is.0
leaf_spelled kind (values.short n) front is = is.0
leaf_spelled kind (values.int n) front is = is.0
leaf_spelled kind (values.long n) front is = is.0
leaf_spelled kind (values.float run) front is = is.0
leaf_spelled kind (values.double run) front is = is.0
leaf_spelled kind (values.byte_array ns) front is = is.0
leaf_spelled kind (values.text t) front is = is.0
leaf_spelled kind (values.int_array ns) front is = is.0
leaf_spelled kind (values.long_array ns) front is = is.0

-- bytes that spell a value are of its kind
kind_spelled : (kind : Kind) (t : Nbt) (depth : ℕ) (front : List ℕ) → Spells kind t depth front → kind ≡ kind_of t
kind_spelled kind (leaf v) depth front is = is.1 ∙ ap kinds.Leaf (leaf_spelled is.0 v front is.2)
kind_spelled kind (list ts) depth front is = is.0
kind_spelled kind (compound ms) depth front is = is.0

-- what is read as a payload of a kind has this kind
pub kind_read : (end room : ℕ) (kind : Kind) (bytes : List ℕ) (x : Nbt × List ℕ) → room ≤ 512
    → value_at end room kind bytes ≡ Ok x → kind ≡ kind_of x.0
kind_read end room kind bytes x shallow e =
    let takes = value_takes end room (513 - room) (omega arith) kind bytes x e in
    kind_spelled kind x.0 (513 - room) takes.front takes.holds

-- ---- values of another kind

-- a value of another kind is no Int
pub no_int : (t : Nbt) → kind_of t ≢ kinds.Leaf leaves.Int → ◌≡◌ {A = Option _} None (int_of t)
no_int (leaf (values.int n)) other = absurd (other refl)
no_int t other = refl

-- a value of another kind is no String
pub no_text : (t : Nbt) → kind_of t ≢ kinds.Leaf leaves.Text → ◌≡◌ {A = Option _} None (text_of t)
no_text (leaf (values.text s)) other = absurd (other refl)
no_text t other = refl

-- a value of another kind is no list
pub no_list : (t : Nbt) → kind_of t ≢ kinds.List → ◌≡◌ {A = Option _} None (items_in t)
no_list (list ts) other = absurd (other refl)
no_list t other = refl

-- a value of another kind has no entries
pub no_entries : (t : Nbt) → kind_of t ≢ kinds.Compound → ◌≡◌ {A = Option _} None (entries_in t)
no_entries (compound ms) other = absurd (other refl)
no_entries t other = refl

-- a value of the kind of compounds is one
pub compound_kind : (t : Nbt) → kinds.Compound ≡ kind_of t → is_compound t ≡ true
compound_kind (compound ms) e = refl
compound_kind (leaf v) e = absurd cc
compound_kind (list ts) e = absurd cc

-- a value of another kind is no compound
pub other_compound : (t : Nbt) → kind_of t ≢ kinds.Compound → is_compound t ≡ false
other_compound (compound ms) other = absurd (other refl)
other_compound t other = refl

-- a test of two kinds that failed
pub differ : (same : Bool) (a b : Kind) → (IsTrue same ↔ (a ≡ b)) → same ≡ false → a ≢ b
differ same a b iff failed e = let yes : same ≡ true = iff.1 e in absurd cc

-- ---- the fields of a compound, from its entries

-- members made of names and values are the members again
members_of-named : (ms : values.Members) → members_of (named ms) ≡ ms
members_of-named values.no_members = refl
members_of-named (values.member name t ms) = ap (values.member name t) (members_of-named ms)

-- a choice after which there is none
or_none : {A : Type 0} (found : Option A) → option_or found None ≡ found
or_none None = refl
or_none (Some t) = refl

-- the last of the entries with a name is the field
pub field_entries : (name : List ℕ) (t : Nbt) (ms : List (List ℕ × Nbt)) → Some ms ≡ entries_in t
    → option_or (last_named name (members_of ms)) None ≡ field name t
field_entries name (compound all) ms e =
    let same : ms ≡ named all = cc in
    or_none (last_named name (members_of ms))
    ∙ ap (last_named name) (ap members_of same ∙ members_of-named all)
field_entries name (leaf v) ms e = absurd cc
field_entries name (list ts) ms e = absurd cc
