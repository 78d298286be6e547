-- Payloads of a fixed size: any number of them is passed over as one run of bytes.
use Rattle.std.proofs.Common.{◌≡◌, ℕ, zero, suc, ◌+◌, ◌*◌, ◌<◌, ◌≤◌, List, length, take, drop, Some, Result, Ok, Err}
use Rattle.std.proofs.Common.{refl, sym, ap, subst, ◌∙◌, arith, length-drop, ltb, inl, inr}
use Rattle.std.proofs.lemmas.List.{drop-drop}
use Rattle.std.proofs.lemmas.Bool.{le-ltb, lt-ltb, ltb-false, cases_lt}
use Rattle.std.specs.Int.{Width, w8, w16, w32, w64, cast_signed}
use Rattle.byteorder.specs.Endian.{big_number}
use Rattle.nbt_core.specs.declared.fault.NbtFault.{NbtFault}
use Rattle.nbt_core.specs.declared.fault.NbtFault.TheVariants.{Truncated}
use Rattle.nbt_core.specs.declared.kind.Kind.{Kind}
use Rattle.nbt_core.specs.declared.kind.Kind.TheVariants as kinds
use Rattle.nbt_core.specs.declared.kind.LeafKind.{LeafKind}
use Rattle.nbt_core.specs.declared.kind.LeafKind.TheVariants as leaves
use Rattle.nbt_core.specs.Ids.{fixed_size}
use Rattle.nbt_core.specs.Value.{Nbt, Items, no_items, item}
use Rattle.nbt_core.specs.Value as values
use Rattle.nbt_core.specs.Reading.{Reads, mapped, run_at, signed_at}
use Rattle.nbt_core.specs.LeafReading.{leaf_at}
use Rattle.nbt_core.specs.TreeReading.{items_at, value_at}
use Rattle.nbt_core.specs.Skipping.{IsRead, Skips}
use Rattle.nbt_core.proofs.Results.{chosen, ok_is, err_never}
use Rattle.nbt_core.proofs.Pieces.{run_err}
use Rattle.nbt_core.proofs.Steps.{fails_too, value_leaf}

-- reading takes `size` bytes, and meets no fault but that there are fewer
pub record IsFixed {A : Type 0} (end size : ℕ) (read : List ℕ → Reads A) : Type 0 where
  pub short : (bytes : List ℕ) → length bytes < size → read bytes ≡ Err (Truncated end)
  pub whole : (bytes : List ℕ) → size ≤ length bytes → IsRead (read bytes) (drop size bytes)

-- a run of bytes
fixed_run : (end size : ℕ) → IsFixed end size (run_at end size)
unfolding run_at
fixed_run end size = record {
  short = λ bytes lt. rw (lt-ltb _ _ lt) refl;
  whole = λ bytes le. record { value = take size bytes; is = rw (le-ltb _ _ le) refl };
}

-- the same reading with its value changed
fixed_mapped : {A B : Type 0} (end size : ℕ) (f : A → B) (read : List ℕ → Reads A) → IsFixed end size read
    → IsFixed end size (λ bytes. mapped f (read bytes))
fixed_mapped end size f read fixed = record {
  short = λ bytes lt. ap (mapped f) (fixed.short bytes lt);
  whole = λ bytes le. record { value = f (fixed.whole bytes le).value; is = ap (mapped f) (fixed.whole bytes le).is };
}

-- another reading that is the same
fixed_as : {A : Type 0} (end size : ℕ) (read same : List ℕ → Reads A) → ((bytes : List ℕ) → read bytes ≡ same bytes)
    → IsFixed end size same → IsFixed end size read
fixed_as end size read same e fixed = record {
  short = λ bytes lt. e bytes ∙ fixed.short bytes lt;
  whole = λ bytes le. record { value = (fixed.whole bytes le).value; is = e bytes ∙ (fixed.whole bytes le).is };
}

-- another word for the same size
sized : {A : Type 0} (end n size : ℕ) (read : List ℕ → Reads A) → Some n ≡ Some size → IsFixed end n read
    → IsFixed end size read
sized end n size read e fixed = let same : n ≡ size = cc in subst (λ (m : ℕ). IsFixed end m read) same fixed

module _ (end room : ℕ) where
  -- a payload that holds no other
  fixed_leaf : (kind : LeafKind) (size : ℕ) → IsFixed end size (leaf_at end kind)
      → IsFixed end size (value_at end room (kinds.Leaf kind))
  fixed_leaf kind size fixed = fixed_as end size (value_at end room (kinds.Leaf kind))
      (λ bytes. mapped values.leaf (leaf_at end kind bytes)) (λ bytes. value_leaf end bytes room kind)
      (fixed_mapped end size values.leaf (leaf_at end kind) fixed)

  -- a number
  fixed_signed : (width : Width) (size : ℕ) → IsFixed end size (signed_at end width size)
  unfolding signed_at
  fixed_signed width size = fixed_mapped end size (λ run. cast_signed width (big_number size run)) (run_at end size)
      (fixed_run end size)

  -- a payload of a kind of a fixed size
  pub fixed_value : (kind : Kind) (size : ℕ) → fixed_size kind ≡ Some size → IsFixed end size (value_at end room kind)
  unfolding leaf_at
  fixed_value (kinds.Leaf leaves.Byte) size e = sized end 1 size _ e
      (fixed_leaf leaves.Byte 1 (fixed_mapped end 1 values.byte (signed_at end w8 1) (fixed_signed w8 1)))
  fixed_value (kinds.Leaf leaves.Short) size e = sized end 2 size _ e
      (fixed_leaf leaves.Short 2 (fixed_mapped end 2 values.short (signed_at end w16 2) (fixed_signed w16 2)))
  fixed_value (kinds.Leaf leaves.Int) size e = sized end 4 size _ e
      (fixed_leaf leaves.Int 4 (fixed_mapped end 4 values.int (signed_at end w32 4) (fixed_signed w32 4)))
  fixed_value (kinds.Leaf leaves.Long) size e = sized end 8 size _ e
      (fixed_leaf leaves.Long 8 (fixed_mapped end 8 values.long (signed_at end w64 8) (fixed_signed w64 8)))
  fixed_value (kinds.Leaf leaves.Float) size e = sized end 4 size _ e
      (fixed_leaf leaves.Float 4 (fixed_mapped end 4 values.float (run_at end 4) (fixed_run end 4)))
  fixed_value (kinds.Leaf leaves.Double) size e = sized end 8 size _ e
      (fixed_leaf leaves.Double 8 (fixed_mapped end 8 values.double (run_at end 8) (fixed_run end 8)))
  fixed_value kind size e = absurd cc

-- what passes over a run of this length passes over what is read
pub fixed_skips : {X A : Type 0} (end size : ℕ) (read : List ℕ → Reads A) (r : Result X NbtFault) (bytes left : List ℕ)
    → IsFixed end size read → Skips r left (run_at end size bytes) → Skips r left (read bytes)
unfolding run_at
fixed_skips end size read (Ok x) bytes left fixed s =
    elim (chosen (ltb (length bytes) size) _ _ _ s.is) [
      | inl p ↦ absurd (err_never (s.value, left) _ p.1)
      | inr p ↦
          let there = fixed.whole bytes (ltb-false _ _ p.0) in
          let same = ap (λ (y : List ℕ × List ℕ). y.1) (ok_is _ (s.value, left) p.1) in
          record { value = there.value; is = there.is ∙ ap (λ (rest : List ℕ). Ok (there.value, rest)) same }
    ]
fixed_skips end size read (Err e) bytes left fixed s = fails_too e (run_at end size bytes) (read bytes)
    (λ h. let short = run_err end size bytes e h in
    fixed.short bytes short.0 ∙ ap (λ (f : NbtFault). Err f) (sym short.1)) s

-- an item, and the others after it
item_passed : (one : List ℕ → Reads Nbt) (n : ℕ) (bytes : List ℕ) (t : Nbt) (b1 : List ℕ) (ts : Items)
    (b2 left : List ℕ) → one bytes ≡ Ok (t, b1) → items_at one n b1 ≡ Ok (ts, b2) → b2 ≡ left
    → IsRead (items_at one (suc n) bytes) left
unfolding items_at
item_passed one n bytes t b1 ts b2 left h1 h2 e = record { value = item t ts; is = rw (h1, h2, e) refl }

-- `count` payloads of a fixed size
pub fixed_items : (end size : ℕ) (one : List ℕ → Reads Nbt) → IsFixed end size one → (count : ℕ)
    → IsFixed end (size * count) (items_at one count)
unfolding items_at
fixed_items end size one fixed zero =
    let none : size * 0 ≡ 0 = omega arith in
    record {
      short = λ bytes lt. absurd (omega (arith, lt, none));
      whole = λ bytes le. record { value = no_items; is = rw none refl };
    }
fixed_items end size one fixed (suc n) =
    let others = fixed_items end size one fixed n in
    let all : size * suc n ≡ size + size * n = omega arith in
    record {
      short = λ bytes lt. elim (cases_lt (length bytes) size) [
        | inl few ↦ rw (fixed.short bytes few) refl
        | inr enough ↦
            let first = fixed.whole bytes enough in
            let fault = others.short (drop size bytes) (omega (arith, lt, all, length-drop size bytes)) in
            rw (first.is, fault) refl
      ];
      whole = λ bytes le.
          let first = fixed.whole bytes (omega (arith, le, all)) in
          let rest = others.whole (drop size bytes) (omega (arith, le, all, length-drop size bytes)) in
          item_passed one n bytes first.value (drop size bytes) rest.value _ (drop (size * suc n) bytes) first.is
          rest.is (drop-drop (size * n) size bytes ∙ ap (λ (m : ℕ). drop m bytes) (sym all));
    }
