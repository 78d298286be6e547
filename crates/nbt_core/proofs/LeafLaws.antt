-- Payloads that hold no other: what is read is spelled so, what is spelled so is read, and each fault is the first.
use Rattle.std.proofs.Common.{◌≡◌, ℕ, ◌-◌, ◌*◌, ℤ, pos, negsuc, List, ◌++◌, length, Ok, Err, refl, sym, ap, subst}
use Rattle.std.proofs.Common.{◌∙◌, inl, inr}
use Rattle.std.specs.Int.{Width, w8, w16, w32, w64}
use Rattle.nbt_core.specs.declared.fault.NbtFault.{NbtFault}
use Rattle.nbt_core.specs.declared.fault.NbtFault.TheVariants.{BadLength}
use Rattle.nbt_core.specs.declared.kind.LeafKind.{LeafKind}
use Rattle.nbt_core.specs.declared.kind.LeafKind.TheVariants as leaves
use Rattle.nbt_core.specs.Value as values
use Rattle.nbt_core.specs.Reading.{mapped, run_at, signed_at, int_at, text_at}
use Rattle.nbt_core.specs.LeafReading.{numbers_in, by_sign, counted_at, array_at, leaf_at}
use Rattle.nbt_core.specs.Spelling.{◌▷◌, IsSigned, IsInt, IsText, IsRun, AreSigned, IsArray, SpellsLeaf}
use Rattle.nbt_core.specs.Breaking.{BreaksArray, BreaksLeaf}
use Rattle.nbt_core.proofs.Results.{bind_ok, bind_err, mapped_ok, mapped_err, gave, failed, err_is, err_never}
use Rattle.nbt_core.proofs.Fronts.{Takes, takes_then, takes_mapped, then_at, regroup}
use Rattle.nbt_core.proofs.Pieces.{run_takes, run_again, run_err, run_short, signed_takes, signed_again, signed_err}
use Rattle.nbt_core.proofs.Pieces.{signed_short, text_takes, text_again, text_err, text_breaks}
use Rattle.nbt_core.proofs.Numbers.{length-numbers_in, numbers_in-spelled, numbers_in-again, length-spelled}

-- ---- arrays

abbrev with_count : ℕ → List ℕ → ℕ × List ℕ
with_count n run = (n, run)

-- a count, and the bytes of that number of numbers, each of `size` bytes
abbrev IsCounted : ℕ → ℕ × List ℕ → List ℕ → Type 0
IsCounted size counted = IsInt (pos counted.0) ▷ IsRun (size * counted.0) counted.1

counted_takes : (end size : ℕ) (bytes : List ℕ) (x : (ℕ × List ℕ) × List ℕ) → counted_at end size bytes ≡ Ok x
    → Takes (IsCounted size x.0) bytes x.1
unfolding counted_at
counted_takes end size bytes x e =
    let b = bind_ok (int_at end bytes) _ x e in
    goes_on b.0.0 b.0.1 (signed_takes end w32 4 bytes b.0 b.1) b.2
  where
    goes_on : (n : ℤ) (left : List ℕ) → Takes (IsInt n) bytes left → by_sign n (Err (BadLength (end - length bytes)))
        (λ count. mapped (with_count count) (run_at end (size * count) left)) ≡ Ok x
        → Takes (IsCounted size x.0) bytes x.1
    goes_on (negsuc n) left first e = absurd (err_never x _ e)
    goes_on (pos n) left first e =
        let m = mapped_ok (with_count n) (run_at end (size * n) left) x e in
        subst (λ (y : (ℕ × List ℕ) × List ℕ). Takes (IsCounted size y.0) bytes y.1) m.2
        (takes_then first (run_takes end (size * n) left m.0 m.1))

counted_again : (end size n : ℕ) (run rest : List ℕ) (front : List ℕ)
    → IsCounted size (n, run) front → counted_at end size (front ++ rest) ≡ Ok ((n, run), rest)
unfolding counted_at
counted_again end size n run rest front is =
    ap (counted_at end size) (regroup rest is) ∙ rw (signed_again end w32 4
    (pos n) is.front (is.rest ++ rest) is.first) (ap (mapped (with_count n))
    (run_again end (size * n) is.rest rest is.second.0 ∙ ap (λ (x : List ℕ). gave x rest) is.second.1))

counted_err : (end size : ℕ) (bytes : List ℕ) (d : NbtFault) → counted_at end size bytes ≡ Err d
    → BreaksArray end d size bytes
unfolding counted_at
counted_err end size bytes d e =
    elim (bind_err (int_at end bytes) _ d e) [
      | inl p ↦ inl (signed_err end w32 4 bytes d p)
      | inr b ↦ goes_on b.0.0 b.0.1 (signed_takes end w32 4 bytes b.0 b.1) b.2
    ]
  where
    goes_on : (n : ℤ) (left : List ℕ) → Takes (IsInt n) bytes left → by_sign n (Err (BadLength (end - length bytes)))
        (λ count. mapped (with_count count) (run_at end (size * count) left)) ≡ Err d
        → BreaksArray end d size bytes
    goes_on (negsuc n) left first e = inr (inl (n, then_at first tt, sym (err_is _ d e)))
    goes_on (pos n) left first e = inr (inr (n, then_at first (run_err end (size * n) left d (mapped_err _ _ d e))))

counted_breaks : (end size : ℕ) (bytes : List ℕ) (d : NbtFault) → BreaksArray end d size bytes
    → counted_at end size bytes ≡ Err d
unfolding counted_at
counted_breaks end size bytes d (inl is) = rw (signed_short end w32 4 bytes d is) refl
counted_breaks end size bytes d (inr (inl (n, q, fault))) =
    let read : int_at end bytes ≡ gave (negsuc n) q.rest = ap (int_at end) q.parts
    ∙ signed_again end w32 4 (negsuc n) q.front q.rest q.first in
    rw read (ap failed (sym fault))
counted_breaks end size bytes d (inr (inr (n, q))) =
    let read : int_at end bytes ≡ gave (pos n) q.rest = ap (int_at end) q.parts
    ∙ signed_again end w32 4 (pos n) q.front q.rest q.first in
    rw read (ap (mapped (with_count n)) (run_short end (size * n) q.rest d q.second))

array_takes : (end : ℕ) (width : Width) (size : ℕ) (bytes : List ℕ) (x : List ℤ × List ℕ)
    → array_at end width size bytes ≡ Ok x → Takes (IsArray width size x.0) bytes x.1
unfolding array_at
array_takes end width size bytes =
    takes_mapped (λ run. numbers_in width size run.0 run.1) (IsCounted size) (IsArray width size) bytes
    (counted_at end size bytes) (counted_takes end size bytes) spelled
  where
    spelled : (counted : ℕ × List ℕ) (front : List ℕ) → IsCounted size counted front → IsArray width size
        (numbers_in width size counted.0 counted.1) front
    spelled counted front is = record {
      front = is.front;
      rest = is.rest;
      parts = is.parts;
      first = subst (λ (n : ℕ). IsInt (pos n) is.front) (sym (length-numbers_in width size counted.0 counted.1))
          is.first;
      second = subst (λ (run : List ℕ). AreSigned width size (numbers_in width size counted.0 run) is.rest)
          is.second.1 (numbers_in-spelled width size counted.0 is.rest is.second.0);
    }

array_again : (end : ℕ) (width : Width) (size : ℕ) (ns : List ℤ) (front rest : List ℕ)
    → IsArray width size ns front → array_at end width size (front ++ rest) ≡ Ok (ns, rest)
unfolding array_at
array_again end width size ns front rest is =
    let counted : IsCounted size (length ns, is.rest) front =
    record {
      front = is.front;
      rest = is.rest;
      parts = is.parts;
      first = is.first;
      second = (length-spelled width size ns is.rest is.second, refl);
    } in
    ap (mapped (λ run. numbers_in width size run.0 run.1)) (counted_again end size
    (length ns) is.rest rest front counted) ∙ ap (λ (x : List ℤ). gave x rest)
    (numbers_in-again width size ns is.rest is.second)

array_err : (end : ℕ) (width : Width) (size : ℕ) (bytes : List ℕ) (d : NbtFault)
    → array_at end width size bytes ≡ Err d → BreaksArray end d size bytes
unfolding array_at
array_err end width size bytes d e = counted_err end size bytes d (mapped_err _ _ d e)

array_breaks : (end : ℕ) (width : Width) (size : ℕ) (bytes : List ℕ) (d : NbtFault) → BreaksArray end d size bytes
    → array_at end width size bytes ≡ Err d
unfolding array_at
array_breaks end width size bytes d b = ap (mapped (λ run. numbers_in width size run.0 run.1))
    (counted_breaks end size bytes d b)

-- ---- each kind

module _ (end : ℕ) (bytes : List ℕ) where
  signed_leaf : (f : ℤ → values.Leaf) (kind : LeafKind) (width : Width) (size : ℕ)
      → ((n : ℤ) (front : List ℕ) → IsSigned width size n front → SpellsLeaf kind (f n) front)
      → (x : values.Leaf × List ℕ) → mapped f (signed_at end width size bytes) ≡ Ok x
      → Takes (SpellsLeaf kind x.0) bytes x.1
  signed_leaf f kind width size = takes_mapped f (IsSigned width size) (SpellsLeaf kind) bytes
      (signed_at end width size bytes) (signed_takes end width size bytes)

  run_leaf : (f : List ℕ → values.Leaf) (kind : LeafKind) (size : ℕ)
      → ((run front : List ℕ) → IsRun size run front → SpellsLeaf kind (f run) front)
      → (x : values.Leaf × List ℕ) → mapped f (run_at end size bytes) ≡ Ok x → Takes (SpellsLeaf kind x.0) bytes x.1
  run_leaf f kind size = takes_mapped f (IsRun size) (SpellsLeaf kind) bytes (run_at end size bytes)
      (run_takes end size bytes)

  array_leaf : (f : List ℤ → values.Leaf) (kind : LeafKind) (width : Width) (size : ℕ)
      → ((ns : List ℤ) (front : List ℕ) → IsArray width size ns front → SpellsLeaf kind (f ns) front)
      → (x : values.Leaf × List ℕ) → mapped f (array_at end width size bytes) ≡ Ok x
      → Takes (SpellsLeaf kind x.0) bytes x.1
  array_leaf f kind width size = takes_mapped f (IsArray width size) (SpellsLeaf kind) bytes
      (array_at end width size bytes) (array_takes end width size bytes)

  pub leaf_takes : (kind : LeafKind) (x : values.Leaf × List ℕ) → leaf_at end kind bytes ≡ Ok x
      → Takes (SpellsLeaf kind x.0) bytes x.1
  unfolding leaf_at
  leaf_takes leaves.Byte = signed_leaf values.byte leaves.Byte w8 1 (λ n front is. (refl, is))
  leaf_takes leaves.Short = signed_leaf values.short leaves.Short w16 2 (λ n front is. (refl, is))
  leaf_takes leaves.Int = signed_leaf values.int leaves.Int w32 4 (λ n front is. (refl, is))
  leaf_takes leaves.Long = signed_leaf values.long leaves.Long w64 8 (λ n front is. (refl, is))
  leaf_takes leaves.Float = run_leaf values.float leaves.Float 4 (λ run front is. (refl, is))
  leaf_takes leaves.Double = run_leaf values.double leaves.Double 8 (λ run front is. (refl, is))
  leaf_takes leaves.ByteArray = array_leaf values.byte_array leaves.ByteArray w8 1 (λ ns front is. (refl, is))
  leaf_takes leaves.Text = takes_mapped values.text IsText (SpellsLeaf leaves.Text) bytes (text_at end bytes)
      (text_takes end bytes) (λ t front is. (refl, is))
  leaf_takes leaves.IntArray = array_leaf values.int_array leaves.IntArray w32 4 (λ ns front is. (refl, is))
  leaf_takes leaves.LongArray = array_leaf values.long_array leaves.LongArray w64 8 (λ ns front is. (refl, is))

  pub leaf_err : (kind : LeafKind) (d : NbtFault) → leaf_at end kind bytes ≡ Err d → BreaksLeaf end d kind bytes
  unfolding leaf_at
  leaf_err leaves.Byte d e = signed_err end w8 1 bytes d (mapped_err _ _ d e)
  leaf_err leaves.Short d e = signed_err end w16 2 bytes d (mapped_err _ _ d e)
  leaf_err leaves.Int d e = signed_err end w32 4 bytes d (mapped_err _ _ d e)
  leaf_err leaves.Long d e = signed_err end w64 8 bytes d (mapped_err _ _ d e)
  leaf_err leaves.Float d e = run_err end 4 bytes d (mapped_err _ _ d e)
  leaf_err leaves.Double d e = run_err end 8 bytes d (mapped_err _ _ d e)
  leaf_err leaves.ByteArray d e = array_err end w8 1 bytes d (mapped_err _ _ d e)
  leaf_err leaves.Text d e = text_err end bytes d (mapped_err _ _ d e)
  leaf_err leaves.IntArray d e = array_err end w32 4 bytes d (mapped_err _ _ d e)
  leaf_err leaves.LongArray d e = array_err end w64 8 bytes d (mapped_err _ _ d e)

  pub leaf_breaks : (kind : LeafKind) (d : NbtFault) → BreaksLeaf end d kind bytes → leaf_at end kind bytes ≡ Err d
  unfolding leaf_at
  leaf_breaks leaves.Byte d b = ap (mapped values.byte) (signed_short end w8 1 bytes d b)
  leaf_breaks leaves.Short d b = ap (mapped values.short) (signed_short end w16 2 bytes d b)
  leaf_breaks leaves.Int d b = ap (mapped values.int) (signed_short end w32 4 bytes d b)
  leaf_breaks leaves.Long d b = ap (mapped values.long) (signed_short end w64 8 bytes d b)
  leaf_breaks leaves.Float d b = ap (mapped values.float) (run_short end 4 bytes d b)
  leaf_breaks leaves.Double d b = ap (mapped values.double) (run_short end 8 bytes d b)
  leaf_breaks leaves.ByteArray d b = ap (mapped values.byte_array) (array_breaks end w8 1 bytes d b)
  leaf_breaks leaves.Text d b = ap (mapped values.text) (text_breaks end bytes d b)
  leaf_breaks leaves.IntArray d b = ap (mapped values.int_array) (array_breaks end w32 4 bytes d b)
  leaf_breaks leaves.LongArray d b = ap (mapped values.long_array) (array_breaks end w64 8 bytes d b)

module _ (end : ℕ) (kind : LeafKind) (front rest : List ℕ) where
  pub leaf_again : (v : values.Leaf) → SpellsLeaf kind v front → leaf_at end kind (front ++ rest) ≡ Ok (v, rest)
  unfolding leaf_at
  leaf_again (values.byte n) is = rw is.0 (ap (mapped values.byte) (signed_again end w8 1 n front rest is.1))
  leaf_again (values.short n) is = rw is.0 (ap (mapped values.short) (signed_again end w16 2 n front rest is.1))
  leaf_again (values.int n) is = rw is.0 (ap (mapped values.int) (signed_again end w32 4 n front rest is.1))
  leaf_again (values.long n) is = rw is.0 (ap (mapped values.long) (signed_again end w64 8 n front rest is.1))
  leaf_again (values.float run) is = rw is.0 (ap (mapped values.float) (run_again end 4 front rest is.1.0)
      ∙ ap (λ (x : List ℕ). gave (values.float x) rest) is.1.1)
  leaf_again (values.double run) is = rw is.0 (ap (mapped values.double) (run_again end 8 front rest is.1.0)
      ∙ ap (λ (x : List ℕ). gave (values.double x) rest) is.1.1)
  leaf_again (values.byte_array ns) is = rw is.0 (ap (mapped values.byte_array)
      (array_again end w8 1 ns front rest is.1))
  leaf_again (values.text t) is = rw is.0 (ap (mapped values.text) (text_again end t front rest is.1))
  leaf_again (values.int_array ns) is = rw is.0 (ap (mapped values.int_array)
      (array_again end w32 4 ns front rest is.1))
  leaf_again (values.long_array ns) is = rw is.0 (ap (mapped values.long_array)
      (array_again end w64 8 ns front rest is.1))
