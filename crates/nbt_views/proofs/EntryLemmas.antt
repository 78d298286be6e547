-- Entries that are an Int or a list of three Ints, and a compound of one of each.
use Rattle.std.proofs.Common.{◌≡◌, ℕ, ◌+◌, ◌≤◌, ℤ, List, [], ◌∷◌, length, None, Ok, refl, ap, ◌∙◌, arith}
use Rattle.nbt_core.specs.declared.kind.Kind.{Kind}
use Rattle.nbt_core.specs.declared.kind.Kind.TheVariants as kinds
use Rattle.nbt_core.specs.declared.kind.LeafKind.TheVariants as leaves
use Rattle.nbt_core.specs.Value.{Nbt, leaf, Items, no_items, item, Members, no_members, member}
use Rattle.nbt_core.specs.Value as values
use Rattle.nbt_core.specs.Reading.{Reads, int_at, kind_at}
use Rattle.nbt_core.specs.TreeReading.{items_at, members_at, value_at}
use Rattle.nbt_core.specs.Skipping.{AreInts}
use Rattle.nbt_core.proofs.Steps.{value_list, value_compound}
use Rattle.nbt_core.proofs.ListLemmas.{list_full, compound_full}
use Rattle.nbt_core.proofs.MembersLoop.{members_start, members_go_on, members_done}
use Rattle.nbt_views.specs.Entry.{IsEntry, IsHead}
use Rattle.nbt_views.specs.Parts.{numbers, three_ints}
use Rattle.nbt_views.proofs.IntItems.{int_passed}

-- an Int after its name
pub int_entry : (end room : ℕ) (name bytes payload left : List ℕ) (n : ℤ)
    → IsHead end (kinds.Leaf leaves.Int) name bytes payload → int_at end payload ≡ Ok (n, left)
    → length left ≤ length payload → IsEntry end (value_at end room) name (leaf (values.int n)) bytes left
int_entry end room name bytes payload left n head h le = record {
  kind = kinds.Leaf leaves.Int;
  payload = payload;
  head = head;
  read = int_passed end room (kinds.Leaf leaves.Int) payload n left refl h;
  shorter = le;
}

-- three Ints after their count
pub triple_read : (end room count : ℕ) (bytes items b1 b2 left : List ℕ) (x y z : ℤ)
    → AreInts end room count bytes items → count ≡ 3 → int_at end items ≡ Ok (x, b1) → int_at end b1 ≡ Ok (y, b2)
    → int_at end b2 ≡ Ok (z, left) → value_at end room kinds.List bytes ≡ Ok (three_ints (x ∷ y ∷ z ∷ []), left)
unfolding items_at
triple_read end room count bytes items b1 b2 left x y z a three hx hy hz =
    let one : List ℕ → Reads Nbt = value_at end a.less (kinds.Leaf leaves.Int) in
    let px = int_passed end a.less (kinds.Leaf leaves.Int) items x b1 refl hx in
    let py = int_passed end a.less (kinds.Leaf leaves.Int) b1 y b2 refl hy in
    let pz = int_passed end a.less (kinds.Leaf leaves.Int) b2 z left refl hz in
    let ts : Items = item (leaf (values.int x)) (item (leaf (values.int y)) (item (leaf (values.int z)) no_items)) in
    let all : items_at one 3 items ≡ Ok (ts, left) = rw (px, py, pz) refl in
    value_list end bytes room a.less a.deep ∙ list_full end (value_at end a.less) bytes (kinds.Leaf leaves.Int)
    a.after_kind 3 items ts left a.kinded (rw three at a.counted) all

-- a compound of two entries, three Ints and an Int
pub numbers_read : (end room less : ℕ) (kind : Kind) (bytes b1 b2 left a b : List ℕ) (ns : List ℤ) (n : ℤ)
    → kind ≡ kinds.Compound → room ≡ less + 1 → IsEntry end (value_at end less) a (three_ints ns) bytes b1
    → IsEntry end (value_at end less) b (leaf (values.int n)) b1 b2 → kind_at end b2 ≡ Ok (None, left)
    → value_at end room kind bytes ≡ Ok (numbers a b ns n, left)
numbers_read end room less kind bytes b1 b2 left a b ns n k deep first second h =
    let inner : Kind → List ℕ → Reads Nbt = value_at end less in
    let total : Reads Members = members_at end inner (length bytes) bytes in
    let one : Members = member a (three_ints ns) no_members in
    let two : Members = member a (three_ints ns) (member b (leaf (values.int n)) no_members) in
    let s1 = members_go_on end inner no_members bytes total (members_start end inner bytes) first.kind
    first.head.after_kind a first.payload (three_ints ns) b1 first.head.kinded first.head.named first.read
    (omega (arith, first.shorter, first.head.shorter)) in
    let s2 = members_go_on end inner one b1 total s1 second.kind second.head.after_kind b second.payload
    (leaf (values.int n)) b2 second.head.kinded second.head.named second.read
    (omega (arith, second.shorter, second.head.shorter)) in
    ap (λ (k : Kind). value_at end room k bytes) k ∙ value_compound end bytes room less deep
    ∙ compound_full end inner bytes two left (members_done end inner two b2 total s2 left h)
