-- A payload in the bytes that spell it, and its parts.
use Rattle.std.proofs.Common.{◌≡◌, ◌≢◌, ℕ, ◌+◌, ◌-◌, ◌≤◌, ◌==◌, ℤ, Bool, true, false, cond, List, [], length, Option}
use Rattle.std.proofs.Common.{Some, None, option_map, Result, Ok, Err, IfErr, IsTrue, refl, sym, ap, ◌∙◌, arith}
use Rattle.std.specs.Prelude.{◌↔◌}
use Rattle.std.specs.Borrow.{Bor}
use Rattle.std.specs.Result.{result_ok}
use Rattle.nbt_core.specs.declared.fault.NbtFault.{NbtFault}
use Rattle.nbt_core.specs.declared.fault.NbtFault.TheVariants.{BadLength, TooDeep, OutOfMemory}
use Rattle.nbt_core.specs.declared.kind.Kind.{Kind}
use Rattle.nbt_core.specs.declared.kind.Kind.TheVariants as kinds
use Rattle.nbt_core.specs.declared.kind.LeafKind.TheVariants as leaves
use Rattle.nbt_core.specs.Value.{Nbt, leaf, list, compound, no_items, no_members, listed}
use Rattle.nbt_core.specs.Value as values
use Rattle.nbt_core.specs.Reading.{Reads, mapped, Fails, Gives, int_at, text_at, kind_at, count_at}
use Rattle.nbt_core.specs.LeafReading.{leaf_at}
use Rattle.nbt_core.specs.TreeReading.{items_at, members_at, list_at, compound_at, value_at}
use Rattle.nbt_core.proofs.Results.{gave, failed, mapped_ok, ok_is, err_never}
use Rattle.nbt_core.proofs.Steps.{mapped_fails, value_leaf, value_list, value_compound, value_too_deep_list}
use Rattle.nbt_core.proofs.Steps.{value_too_deep_compound}
use Rattle.nbt_core.proofs.ListLemmas.{list_no_kind, list_no_count}
use Rattle.nbt_views.specs.Borrowed.{IsReadable, read_or, payload_value, item_values, entry_values}
use Rattle.nbt_views.specs.Borrowed.{IsPayload, ArePayloads, AreNamed}
use Rattle.nbt_views.specs.Parts.{int_of, text_of, items_in, entries_in}
use Rattle.nbt_views.proofs.KindLemmas.{never, kind_of, kind_read, differ}
use Rattle.nbt_views.proofs.MemberLemmas.{members_more}

module _ (end room : ℕ) (kind : Kind) (bytes : List ℕ) (p : IsPayload end room kind bytes) where
  -- the value that is seen is the one that was read
  value_is : payload_value end room kind bytes ≡ p.whole.whole.value
  value_is = ap (read_or (list no_items)) p.whole.whole.is

  -- a value of another kind, as a test of the payload's kind told it
  pub other_kind : (of : Kind) (same : Bool) (value : Nbt) → payload_value end room kind bytes ≡ value
      → (IsTrue same ↔ (kind ≡ of)) → same ≡ false → kind_of value ≢ of
  other_kind of same value v iff failed e =
      differ same kind of iff failed (kind_read end room kind bytes (p.whole.whole.value, p.whole.left) p.shallow
      p.whole.whole.is ∙ ap kind_of (sym value_is ∙ v) ∙ e)

-- ---- numbers and texts

-- the number that is read is that of the Int
int_value : (end room : ℕ) (bytes : List ℕ) (n : ℤ) (left : List ℕ) → int_at end bytes ≡ Ok (n, left)
    → payload_value end room (kinds.Leaf leaves.Int) bytes ≡ leaf (values.int n)
unfolding leaf_at
int_value end room bytes n left h = ap (read_or (list no_items)) (value_leaf end bytes room leaves.Int
    ∙ ap (λ (r : Reads ℤ). mapped leaf (mapped values.int r)) h)

-- a fault of the number is one of the Int
pub int_fails : (end room : ℕ) (bytes : List ℕ) (e : NbtFault) → Fails e (int_at end bytes)
    → Fails e (value_at end room (kinds.Leaf leaves.Int) bytes)
unfolding leaf_at
int_fails end room bytes e fails = rw (value_leaf end bytes room leaves.Int) (mapped_fails leaf e _
    (mapped_fails values.int e _ fails))

-- what is seen of an Int is its number
pub int_found : (end room : ℕ) (kind : Kind) (bytes : List ℕ) → IsPayload end room kind bytes
    → (value : Nbt) → payload_value end room kind bytes ≡ value → kind ≡ kinds.Leaf leaves.Int
    → (r : Result ℤ NbtFault) (left : List ℕ) → Gives (λ n. n) r left (int_at end bytes)
    → IfErr r (λ e. e ≢ OutOfMemory) → result_ok r ≡ int_of value
int_found end room kind bytes p value v k (Ok n) left read other =
    ap int_of (sym (int_value end room bytes n left read)
    ∙ ap (λ (k : Kind). payload_value end room k bytes) (sym k) ∙ v)
int_found end room kind bytes p value v k (Err e) left read other =
    absurd (never (value_at end room kind bytes) e p.whole (rw k (int_fails end room bytes e read)) other)

-- the bytes that are read are those of the String
text_value : (end room : ℕ) (bytes t left : List ℕ) → text_at end bytes ≡ Ok (t, left)
    → payload_value end room (kinds.Leaf leaves.Text) bytes ≡ leaf (values.text t)
unfolding leaf_at
text_value end room bytes t left h = ap (read_or (list no_items)) (value_leaf end bytes room leaves.Text
    ∙ ap (λ (r : Reads (List ℕ)). mapped leaf (mapped values.text r)) h)

-- a fault of the text is one of the String
text_fails : (end room : ℕ) (bytes : List ℕ) (e : NbtFault) → Fails e (text_at end bytes)
    → Fails e (value_at end room (kinds.Leaf leaves.Text) bytes)
unfolding leaf_at
text_fails end room bytes e fails = rw (value_leaf end bytes room leaves.Text) (mapped_fails leaf e _
    (mapped_fails values.text e _ fails))

-- what is seen of a String is its bytes
pub text_found : (end room : ℕ) (kind : Kind) (bytes : List ℕ) → IsPayload end room kind bytes
    → (value : Nbt) → payload_value end room kind bytes ≡ value → kind ≡ kinds.Leaf leaves.Text
    → (r : Result (Bor (List ℕ)) NbtFault) (left : List ℕ) → Gives (λ t. t.now) r left (text_at end bytes)
    → IfErr r (λ e. e ≢ OutOfMemory) → option_map (λ t. t.now) (result_ok r) ≡ text_of value
text_found end room kind bytes p value v k (Ok t) left read other =
    ap text_of (sym (text_value end room bytes t.now left read)
    ∙ ap (λ (k : Kind). payload_value end room k bytes) (sym k) ∙ v)
text_found end room kind bytes p value v k (Err e) left read other =
    absurd (never (value_at end room kind bytes) e p.whole (rw k (text_fails end room bytes e read)) other)

-- ---- lists

-- what is whole by one reading is whole by another that is the same
whole_as : {A : Type 0} (r s : Reads A) → r ≡ s → IsReadable r → IsReadable s
whole_as r s e w = record { left = w.left; whole = record { value = w.whole.value; is = sym e ∙ w.whole.is } }

module _ (end room : ℕ) (kind : Kind) (bytes : List ℕ) (p : IsPayload end room kind bytes) where
  -- a container is read by a reader of its parts
  whole_list : (less : ℕ) → kind ≡ kinds.List → room ≡ less + 1 → IsReadable (list_at end (value_at end less) bytes)
  whole_list less k deep = whole_as (value_at end room kind bytes) (list_at end (value_at end less) bytes)
      (ap (λ (k : Kind). value_at end room k bytes) k ∙ value_list end bytes room less deep) p.whole

  -- a list that is read is not too deep
  pub list_deep : kind ≡ kinds.List → room ≡ 0 → ⊥
  list_deep k none = err_never (p.whole.whole.value, p.whole.left) (TooDeep (end - length bytes))
      (sym (ap (λ (k : Kind). value_at end room k bytes) k ∙ value_too_deep_list end bytes room none)
      ∙ p.whole.whole.is)

  -- nor is a compound
  pub compound_deep : kind ≡ kinds.Compound → room ≡ 0 → ⊥
  compound_deep k none = err_never (p.whole.whole.value, p.whole.left) (TooDeep (end - length bytes))
      (sym (ap (λ (k : Kind). value_at end room k bytes) k ∙ value_too_deep_compound end bytes room none)
      ∙ p.whole.whole.is)

  -- the id of a list is read without a fault
  pub list_kind_read : (less : ℕ) → kind ≡ kinds.List → room ≡ less + 1 → (e : NbtFault)
      → Fails e (kind_at end bytes) → e ≢ OutOfMemory → ⊥
  list_kind_read less k deep e fails = never (list_at end (value_at end less) bytes) e (whole_list less k deep)
      (list_no_kind end (value_at end less) bytes e fails)

  -- so is its count
  pub list_count_read : (less : ℕ) → kind ≡ kinds.List → room ≡ less + 1 → (of : Option Kind) (b1 : List ℕ)
      (e : NbtFault) → kind_at end bytes ≡ Ok (of, b1) → Fails e (count_at end b1) → e ≢ OutOfMemory → ⊥
  list_count_read less k deep of b1 e h1 fails = never (list_at end (value_at end less) bytes) e
      (whole_list less k deep) (list_no_count end (value_at end less) bytes of b1 e h1 fails)

-- the items of a list that is read
record Listed (end : ℕ) (inner : Kind → List ℕ → Reads Nbt) (kind : Kind) (count : ℕ) (b2 : List ℕ)
    (read : Reads Nbt) : Type 0 where
  whole : IsReadable (items_at (inner kind) count b2)
  is : read_or (list no_items) read ≡ list (read_or no_items (items_at (inner kind) count b2))

-- a list with a kind of items holds those that are read
list_listed : (end : ℕ) (inner : Kind → List ℕ → Reads Nbt) (bytes : List ℕ) (kind : Kind) (b1 : List ℕ) (count : ℕ)
    (b2 : List ℕ) → kind_at end bytes ≡ Ok (Some kind, b1) → count_at end b1 ≡ Ok (count, b2)
    → IsReadable (list_at end inner bytes) → Listed end inner kind count b2 (list_at end inner bytes)
unfolding list_at
list_listed end inner bytes kind b1 count b2 h1 h2 w =
    let read : list_at end inner bytes ≡ mapped list (items_at (inner kind) count b2) = rw (h1, h2) refl in
    let d = mapped_ok list (items_at (inner kind) count b2) (w.whole.value, w.left) (sym read ∙ w.whole.is) in
    record {
      whole = record { left = d.0.1; whole = record { value = d.0.0; is = d.1 } };
      is = ap (read_or (list no_items)) read
          ∙ ap (λ (r : Reads values.Items). read_or (list no_items) (mapped list r)) d.1
          ∙ ap (λ (r : Reads values.Items). list (read_or no_items r)) (sym d.1);
    }

-- a list of End holds nothing
list_void : (end : ℕ) (inner : Kind → List ℕ → Reads Nbt) (bytes b1 : List ℕ) (count : ℕ) (b2 : List ℕ)
    → kind_at end bytes ≡ Ok (None, b1) → count_at end b1 ≡ Ok (count, b2)
    → IsReadable (list_at end inner bytes) → read_or (list no_items) (list_at end inner bytes) ≡ list no_items
unfolding list_at
list_void end inner bytes b1 count b2 h1 h2 w =
    let d = BadLength (end - length b1) in
    let read : list_at end inner bytes ≡ cond (count == 0) (gave (list no_items) b2) (failed d) = rw (h1, h2) refl in
    ap (read_or (list no_items)) w.whole.is ∙ voided (count == 0) d (w.whole.value, w.left) (sym read ∙ w.whole.is)
  where
    voided : (b : Bool) (d : NbtFault) (x : Nbt × List ℕ)
        → cond b (gave (list no_items) b2) (failed d) ≡ Ok x → x.0 ≡ list no_items
    voided true d x e = ap (λ (y : Nbt × List ℕ). y.0) (sym (ok_is (list no_items, b2) x e))
    voided false d x e = absurd (err_never x d e)

module _ (end room : ℕ) (kind : Kind) (bytes : List ℕ) (p : IsPayload end room kind bytes) (less : ℕ)
    (k : kind ≡ kinds.List) (deep : room ≡ less + 1) where
  -- the value of a list, as its parts are read
  value_list_is : (value : Nbt) → payload_value end room kind bytes ≡ value
      → read_or (list no_items) (list_at end (value_at end less) bytes) ≡ value
  value_list_is value v = ap (read_or (list no_items)) (sym (ap (λ (k : Kind). value_at end room k bytes) k
      ∙ value_list end bytes room less deep)) ∙ v

  -- the items of a list are read without a fault
  pub list_items : (of : Kind) (b1 : List ℕ) (count : ℕ) (b2 : List ℕ) → kind_at end bytes ≡ Ok (Some of, b1)
      → count_at end b1 ≡ Ok (count, b2) → length b2 ≤ end → ArePayloads end less of count b2
  list_items of b1 count b2 h1 h2 within = record {
    within = within;
    shallow = omega (arith, deep, p.shallow);
    whole = (list_listed end (value_at end less) bytes of b1 count b2 h1 h2
        (whole_list end room kind bytes p less k deep)).whole;
  }

  -- they are the items of its value
  pub list_items_in : (of : Kind) (b1 : List ℕ) (count : ℕ) (b2 : List ℕ) → kind_at end bytes ≡ Ok (Some of, b1)
      → count_at end b1 ≡ Ok (count, b2) → (value : Nbt) → payload_value end room kind bytes ≡ value
      → Some (item_values end less of count b2) ≡ items_in value
  list_items_in of b1 count b2 h1 h2 value v =
      let l = list_listed end (value_at end less) bytes of b1 count b2 h1 h2
      (whole_list end room kind bytes p less k deep) in
      ap items_in (sym l.is ∙ value_list_is value v)

  -- a list of End has no items
  pub no_items_in : (b1 : List ℕ) (count : ℕ) (b2 : List ℕ) → kind_at end bytes ≡ Ok (None, b1)
      → count_at end b1 ≡ Ok (count, b2) → (value : Nbt) → payload_value end room kind bytes ≡ value
      → Some [] ≡ items_in value
  no_items_in b1 count b2 h1 h2 value v =
      ap items_in (sym (list_void end (value_at end less) bytes b1 count b2 h1 h2
      (whole_list end room kind bytes p less k deep)) ∙ value_list_is value v)

-- payloads of which there are none
pub none_there : (end room : ℕ) (kind : Kind) (bytes : List ℕ) → length bytes ≤ end → room ≤ 512
    → ArePayloads end room kind 0 bytes
unfolding items_at
none_there end room kind bytes within shallow = record {
  within = within;
  shallow = shallow;
  whole = record { left = bytes; whole = record { value = no_items; is = refl } };
}

-- ---- compounds

-- the members of a compound that is read
record Membered (end : ℕ) (inner : Kind → List ℕ → Reads Nbt) (bytes : List ℕ) (read : Reads Nbt) : Type 0 where
  whole : IsReadable (members_at end inner end bytes)
  is : read_or (list no_items) read ≡ compound (read_or no_members (members_at end inner end bytes))

-- a compound holds the members that are read
compound_members : (end : ℕ) (inner : Kind → List ℕ → Reads Nbt) (bytes : List ℕ) → length bytes ≤ end
    → IsReadable (compound_at end inner bytes) → Membered end inner bytes (compound_at end inner bytes)
unfolding compound_at
compound_members end inner bytes within w =
    let d = mapped_ok compound (members_at end inner (length bytes) bytes) (w.whole.value, w.left) w.whole.is in
    let more = members_more end inner (length bytes) end bytes d.0 within d.1 in
    record {
      whole = record { left = d.0.1; whole = record { value = d.0.0; is = more } };
      is = ap (λ (r : Reads values.Members). read_or (list no_items) (mapped compound r)) d.1
          ∙ ap (λ (r : Reads values.Members). compound (read_or no_members r)) (sym more);
    }

module _ (end room : ℕ) (kind : Kind) (bytes : List ℕ) (p : IsPayload end room kind bytes) (less : ℕ)
    (k : kind ≡ kinds.Compound) (deep : room ≡ less + 1) where
  -- a payload of the kind of compounds is read as one
  as_compound : value_at end room kind bytes ≡ compound_at end (value_at end less) bytes
  as_compound = ap (λ (k : Kind). value_at end room k bytes) k ∙ value_compound end bytes room less deep

  -- its members
  membered : Membered end (value_at end less) bytes (compound_at end (value_at end less) bytes)
  membered = compound_members end (value_at end less) bytes p.within (whole_as (value_at end room kind bytes)
      (compound_at end (value_at end less) bytes) as_compound p.whole)

  -- the entries of a compound are read without a fault
  pub compound_entries : AreNamed end less bytes
  compound_entries = record {
    within = p.within;
    shallow = omega (arith, deep, p.shallow);
    whole = membered.whole;
  }

  -- they are the entries of its value
  pub compound_entries_in : (value : Nbt) → payload_value end room kind bytes ≡ value
      → Some (entry_values end less bytes) ≡ entries_in value
  compound_entries_in value v = ap entries_in (sym membered.is
      ∙ ap (read_or (list no_items)) (sym as_compound) ∙ v)
