-- Passing over pieces, one after another.
use Rattle.std.proofs.Common.{◌≡◌, ℕ, ◌+◌, ◌-◌, ◌≤◌, ◌<◌, List, length, Some, None, Result, Ok, Err, ap, arith}
use Rattle.nbt_core.specs.declared.fault.NbtFault.{NbtFault}
use Rattle.nbt_core.specs.declared.kind.Kind.{Kind}
use Rattle.nbt_core.specs.declared.kind.LeafKind.TheVariants as leaves
use Rattle.nbt_core.specs.Value.{Nbt, list, compound, Items, no_items, item, Members, no_members, member}
use Rattle.nbt_core.specs.Reading.{Reads, mapped, run_at, signed_at, text_at, kind_at, count_at}
use Rattle.nbt_core.specs.LeafReading.{counted_at, array_at, leaf_at}
use Rattle.nbt_core.specs.TreeReading.{items_at, members_at, list_at, compound_at}
use Rattle.nbt_core.specs.Skipping.{IsRead, Skips}
use Rattle.nbt_core.proofs.Steps.{mapped_fails}
use Rattle.nbt_core.proofs.ItemsLoop.{with_items, join_items, items_go_on, items_done, items_start}
use Rattle.nbt_core.proofs.MembersLoop.{MembersSoFar, join_members, members_go_on, members_done, members_start}
use Rattle.nbt_core.proofs.ListLemmas.{list_full, list_empty, list_no_items}

-- what passes over a reading passes over it with its value changed
pub skips_mapped : {X A B : Type 0} (f : A → B) (r : Result X NbtFault) (left : List ℕ) (read : Reads A)
    → Skips r left read → Skips r left (mapped f read)
skips_mapped f (Ok x) left read s = record { value = f s.value; is = ap (mapped f) s.is }
skips_mapped f (Err e) left read s = mapped_fails f e read s

module _ {X : Type 0} (r : Result X NbtFault) (left : List ℕ) (end : ℕ) (bytes : List ℕ) where
  -- passing over one byte passes over a Byte
  pub skips_byte : Skips r left (run_at end 1 bytes) → Skips r left (leaf_at end leaves.Byte bytes)
  unfolding leaf_at signed_at
  skips_byte s = skips_mapped _ r left _ (skips_mapped _ r left _ s)

  -- over two bytes, a Short
  pub skips_short : Skips r left (run_at end 2 bytes) → Skips r left (leaf_at end leaves.Short bytes)
  unfolding leaf_at signed_at
  skips_short s = skips_mapped _ r left _ (skips_mapped _ r left _ s)

  -- over four bytes, an Int
  pub skips_int : Skips r left (run_at end 4 bytes) → Skips r left (leaf_at end leaves.Int bytes)
  unfolding leaf_at signed_at
  skips_int s = skips_mapped _ r left _ (skips_mapped _ r left _ s)

  -- over eight bytes, a Long
  pub skips_long : Skips r left (run_at end 8 bytes) → Skips r left (leaf_at end leaves.Long bytes)
  unfolding leaf_at signed_at
  skips_long s = skips_mapped _ r left _ (skips_mapped _ r left _ s)

  -- over four bytes, a Float
  pub skips_float : Skips r left (run_at end 4 bytes) → Skips r left (leaf_at end leaves.Float bytes)
  unfolding leaf_at
  skips_float s = skips_mapped _ r left _ s

  -- over eight bytes, a Double
  pub skips_double : Skips r left (run_at end 8 bytes) → Skips r left (leaf_at end leaves.Double bytes)
  unfolding leaf_at
  skips_double s = skips_mapped _ r left _ s

  -- over a count and that number of bytes, a Byte_Array
  pub skips_bytes : Skips r left (counted_at end 1 bytes) → Skips r left (leaf_at end leaves.ByteArray bytes)
  unfolding leaf_at array_at
  skips_bytes s = skips_mapped _ r left _ (skips_mapped _ r left _ s)

  -- over a text, a String
  pub skips_text : Skips r left (text_at end bytes) → Skips r left (leaf_at end leaves.Text bytes)
  unfolding leaf_at
  skips_text s = skips_mapped _ r left _ s

  -- over a count and four bytes for each, an Int_Array
  pub skips_ints : Skips r left (counted_at end 4 bytes) → Skips r left (leaf_at end leaves.IntArray bytes)
  unfolding leaf_at array_at
  skips_ints s = skips_mapped _ r left _ (skips_mapped _ r left _ s)

  -- over a count and eight bytes for each, a Long_Array
  pub skips_longs : Skips r left (counted_at end 8 bytes) → Skips r left (leaf_at end leaves.LongArray bytes)
  unfolding leaf_at array_at
  skips_longs s = skips_mapped _ r left _ (skips_mapped _ r left _ s)

-- ---- items

-- some items were passed over, and with those that are left they are all
pub record ItemsPassed (one : List ℕ → Reads Nbt) (count i : ℕ) (bytes : List ℕ) (total : Reads Items) : Type 0 where
  pub front : Items
  pub read : with_items front (items_at one (count - i) bytes) ≡ total

-- before the first item
pub none_passed : (one : List ℕ → Reads Nbt) (count : ℕ) (bytes : List ℕ)
    → ItemsPassed one count 0 bytes (items_at one count bytes)
none_passed one count bytes =
    let all : count - 0 ≡ count = omega arith in
    record { front = no_items; read = rw all (items_start (items_at one count bytes)) }

module _ (one : List ℕ → Reads Nbt) (count i : ℕ) (bytes : List ℕ) (total : Reads Items)
    (so_far : ItemsPassed one count i bytes total) where
  -- one item on
  pub item_passed : (after : List ℕ) → i < count → IsRead (one bytes) after → ItemsPassed one count (i + 1) after total
  item_passed after lt s = record {
    front = join_items so_far.front (item s.value no_items);
    read = items_go_on one so_far.front count i bytes total so_far.read s.value after lt s.is;
  }

  -- after the last item
  pub items_passed : count ≤ i → IsRead total bytes
  items_passed le = record {
    value = so_far.front;
    is = items_done one so_far.front count i bytes total so_far.read le;
  }

-- ---- members

-- some members were passed over, and with those that are left they are all
pub record MembersPassed (end : ℕ) (inner : Kind → List ℕ → Reads Nbt) (bytes : List ℕ) (total : Reads Members)
    : Type 0 where
  pub front : Members
  pub so_far : MembersSoFar end inner front bytes total

-- before the first member
pub no_member_passed : (end : ℕ) (inner : Kind → List ℕ → Reads Nbt) (bytes : List ℕ)
    → MembersPassed end inner bytes (members_at end inner (length bytes) bytes)
no_member_passed end inner bytes = record { front = no_members; so_far = members_start end inner bytes }

module _ (end : ℕ) (inner : Kind → List ℕ → Reads Nbt) (bytes : List ℕ) (total : Reads Members)
    (so_far : MembersPassed end inner bytes total) where
  -- one member on
  pub member_passed : (kind : Kind) (b1 name b2 b3 : List ℕ) → kind_at end bytes ≡ Ok (Some kind, b1)
      → text_at end b1 ≡ Ok (name, b2) → IsRead (inner kind b2) b3 → length b3 < length bytes
      → MembersPassed end inner b3 total
  member_passed kind b1 name b2 b3 h1 h2 s lt = record {
    front = join_members so_far.front (member name s.value no_members);
    so_far = members_go_on end inner so_far.front bytes total so_far.so_far kind b1 name b2 s.value b3 h1 h2 s.is lt;
  }

  -- at the End
  pub members_passed : (b1 : List ℕ) → kind_at end bytes ≡ Ok (None, b1) → IsRead total b1
  members_passed b1 h = record {
    value = so_far.front;
    is = members_done end inner so_far.front bytes total so_far.so_far b1 h;
  }

-- ---- lists and compounds

module _ (end : ℕ) (inner : Kind → List ℕ → Reads Nbt) (bytes : List ℕ) where
  -- passing over the items passes over the list
  pub list_passed : {X : Type 0} (r : Result X NbtFault) (kind : Kind) (b1 : List ℕ) (count : ℕ) (b2 left : List ℕ)
      → kind_at end bytes ≡ Ok (Some kind, b1) → count_at end b1 ≡ Ok (count, b2)
      → Skips r left (items_at (inner kind) count b2) → Skips r left (list_at end inner bytes)
  list_passed (Ok x) kind b1 count b2 left h1 h2 s = record {
    value = list s.value;
    is = list_full end inner bytes kind b1 count b2 s.value left h1 h2 s.is;
  }
  list_passed (Err e) kind b1 count b2 left h1 h2 s = list_no_items end inner bytes kind b1 count b2 e h1 h2 s

  -- a list of End with a count of 0 is passed over
  pub list_none : (b1 : List ℕ) (count : ℕ) (b2 : List ℕ) → kind_at end bytes ≡ Ok (None, b1)
      → count_at end b1 ≡ Ok (count, b2) → count ≡ 0 → IsRead (list_at end inner bytes) b2
  list_none b1 count b2 h1 h2 none = record {
    value = list no_items;
    is = list_empty end inner bytes b1 count b2 h1 h2 none;
  }

  -- passing over the members passes over the compound
  pub compound_passed : {X : Type 0} (r : Result X NbtFault) (left : List ℕ)
      → Skips r left (members_at end inner (length bytes) bytes) → Skips r left (compound_at end inner bytes)
  unfolding compound_at
  compound_passed r left s = skips_mapped compound r left (members_at end inner (length bytes) bytes) s
