-- What each small piece takes from the front, that it takes it again, and the fault where it can't.
use Rattle.std.proofs.Common.{◌≡◌, ◌≢◌, ℕ, suc, ◌-◌, ◌≤◌, ℤ, false, eqb, ltb, List, [], ◌∷◌, ◌++◌, length, Option}
use Rattle.std.proofs.Common.{Some, None, Ok, Err, refl, sym, ap, subst, ◌∙◌, arith, inl, inr}
use Rattle.std.specs.Int.{Width, w32, cast_signed}
use Rattle.byteorder.specs.Endian.{big_number}
use Rattle.std.proofs.lemmas.Bool.{ltb-false, le-ltb, ltb-true, lt-ltb, eqb-true, ne_eqb}
use Rattle.std.proofs.lemmas.List.{take_at, drop_at, take-append-drop, length-append, length-take}
use Rattle.nbt_core.specs.declared.fault.NbtFault.{NbtFault}
use Rattle.nbt_core.specs.declared.fault.NbtFault.TheVariants.{BadTag}
use Rattle.nbt_core.specs.declared.kind.Kind.{Kind}
use Rattle.nbt_core.specs.declared.kind.Kind.TheVariants as kinds
use Rattle.nbt_core.specs.declared.kind.LeafKind.TheVariants as leaves
use Rattle.nbt_core.specs.Ids.{id_of_items, all_kinds, kind_among, kind_named}
use Rattle.nbt_core.specs.Reading.{mapped, run_at, signed_at, int_at, text_at, kind_or, kind_at, count_at}
use Rattle.nbt_core.specs.Value.{natural}
use Rattle.nbt_core.specs.Spelling.{IsByte, IsSigned, IsInt, IsSize, IsText, IsRun}
use Rattle.nbt_core.specs.Breaking.{IsShort, BreaksText, BreaksKind}
use Rattle.nbt_core.proofs.Results.{bind_ok, bind_err, mapped_ok, mapped_err, chosen, failed, ok_is, err_is}
use Rattle.nbt_core.proofs.Results.{err_never, ok_never}
use Rattle.nbt_core.proofs.Fronts.{Takes, takes_then, takes_as, takes_mapped, then_at, front_byte, regroup}

-- ---- runs

run_of : (end n : ℕ) (bytes : List ℕ) (x : List ℕ × List ℕ) → run_at end n bytes ≡ Ok x → (bytes ≡ x.0 ++ x.1)
    × (length x.0 ≡ n)
unfolding run_at
run_of end n bytes x e =
    elim (chosen (ltb (length bytes) n) _ _ _ e) [
      | inl p ↦ absurd (err_never x _ p.1)
      | inr p ↦
          let long : n ≤ length bytes = ltb-false _ _ p.0 in
          subst (λ (y : List ℕ × List ℕ). (bytes ≡ y.0 ++ y.1) × (length y.0 ≡ n)) (ok_is _ x p.1)
          (sym (take-append-drop n bytes), omega (arith, length-take n bytes))
    ]

pub run_takes : (end n : ℕ) (bytes : List ℕ) (x : List ℕ × List ℕ) → run_at end n bytes ≡ Ok x
    → Takes (IsRun n x.0) bytes x.1
run_takes end n bytes x e = let r = run_of end n bytes x e in record { front = x.0; parts = r.0; holds = (r.1, refl) }

pub run_again : (end n : ℕ) (run rest : List ℕ) → length run ≡ n → run_at end n (run ++ rest) ≡ Ok (run, rest)
unfolding run_at
run_again end n run rest len =
    let long : ltb (length (run ++ rest)) n ≡ false = le-ltb _ _ (omega (arith, length-append run rest)) in
    rw (long, take_at run rest n len, drop_at run rest n len) refl

pub run_err : (end n : ℕ) (bytes : List ℕ) (d : NbtFault) → run_at end n bytes ≡ Err d → IsShort end d n bytes
unfolding run_at
run_err end n bytes d e =
    elim (chosen (ltb (length bytes) n) _ _ _ e) [
      | inl p ↦ (ltb-true _ _ p.0, sym (err_is _ d p.1))
      | inr p ↦ absurd (ok_never _ d p.1)
    ]

pub run_short : (end n : ℕ) (bytes : List ℕ) (d : NbtFault) → IsShort end d n bytes → run_at end n bytes ≡ Err d
unfolding run_at
run_short end n bytes d is = rw (lt-ltb _ _ is.0, is.1) refl

-- ---- numbers

pub signed_takes : (end : ℕ) (width : Width) (size : ℕ) (bytes : List ℕ) (x : ℤ × List ℕ)
    → signed_at end width size bytes ≡ Ok x → Takes (IsSigned width size x.0) bytes x.1
unfolding signed_at
signed_takes end width size bytes =
    let value : List ℕ → ℤ = λ run. cast_signed width (big_number size run) in
    takes_mapped value (IsRun size) (IsSigned width size) bytes (run_at end size bytes) (run_takes end size bytes)
    (λ run front is. (is.0, ap value is.1))

pub signed_again : (end : ℕ) (width : Width) (size : ℕ) (n : ℤ) (front rest : List ℕ)
    → IsSigned width size n front → signed_at end width size (front ++ rest) ≡ Ok (n, rest)
unfolding signed_at
signed_again end width size n front rest is = rw (run_again end size front rest is.0, is.1) refl

pub signed_err : (end : ℕ) (width : Width) (size : ℕ) (bytes : List ℕ) (d : NbtFault)
    → signed_at end width size bytes ≡ Err d → IsShort end d size bytes
unfolding signed_at
signed_err end width size bytes d e = run_err end size bytes d (mapped_err _ _ d e)

pub signed_short : (end : ℕ) (width : Width) (size : ℕ) (bytes : List ℕ) (d : NbtFault) → IsShort end d size bytes
    → signed_at end width size bytes ≡ Err d
unfolding signed_at
signed_short end width size bytes d is = rw (run_short end size bytes d is) refl

-- ---- counts

pub count_takes : (end : ℕ) (bytes : List ℕ) (x : ℕ × List ℕ) → count_at end bytes ≡ Ok x → (n : ℤ)
    × (natural n ≡ x.0) × Takes (IsInt n) bytes x.1
unfolding count_at
count_takes end bytes x e =
    let m = mapped_ok natural (int_at end bytes) x e in
    subst (λ (y : ℕ × List ℕ). (n : ℤ) × (natural n ≡ y.0) × Takes (IsInt n) bytes y.1) m.2
    (m.0.0, refl, signed_takes end w32 4 bytes m.0 m.1)

pub count_again : (end : ℕ) (n : ℤ) (front rest : List ℕ) → IsInt n front → count_at end (front ++ rest) ≡ Ok
    (natural n, rest)
unfolding count_at
count_again end n front rest is = ap (mapped natural) (signed_again end w32 4 n front rest is)

pub count_err : (end : ℕ) (bytes : List ℕ) (d : NbtFault) → count_at end bytes ≡ Err d → IsShort end d 4 bytes
unfolding count_at
count_err end bytes d e = signed_err end w32 4 bytes d (mapped_err natural (int_at end bytes) d e)

pub count_short : (end : ℕ) (bytes : List ℕ) (d : NbtFault) → IsShort end d 4 bytes → count_at end bytes ≡ Err d
unfolding count_at
count_short end bytes d is = ap (mapped natural) (signed_short end w32 4 bytes d is)

-- ---- texts

pub text_takes : (end : ℕ) (bytes : List ℕ) (x : List ℕ × List ℕ) → text_at end bytes ≡ Ok x
    → Takes (IsText x.0) bytes x.1
unfolding text_at
text_takes end bytes x e =
    let b = bind_ok (run_at end 2 bytes) (λ size. run_at end (big_number 2 size.0) size.1) x e in
    let size = run_of end 2 bytes b.0 b.1 in
    let text = run_of end (big_number 2 b.0.0) b.0.1 x b.2 in
    let first : Takes (IsSize (length x.0)) bytes b.0.1 = record
    { front = b.0.0; parts = size.0; holds = (size.1, sym text.1) } in
    let second : Takes (λ bytes. bytes ≡ x.0) b.0.1 x.1 = record { front = x.0; parts = text.0; holds = refl } in
    takes_then first second

pub text_again : (end : ℕ) (text front rest : List ℕ) → IsText text front → text_at end (front ++ rest) ≡ Ok
    (text, rest)
unfolding text_at
text_again end text front rest is =
    ap (text_at end) (regroup rest is) ∙ rw (
      run_again end 2 is.front (is.rest ++ rest) is.first.0,
      is.first.1,
      is.second,
    ) (run_again end (length text) text rest refl)

pub text_err : (end : ℕ) (bytes : List ℕ) (d : NbtFault) → text_at end bytes ≡ Err d → BreaksText end d bytes
unfolding text_at
text_err end bytes d e =
    elim (bind_err (run_at end 2 bytes) (λ size. run_at end (big_number 2 size.0) size.1) d e) [
      | inl p ↦ inl (run_err end 2 bytes d p)
      | inr p ↦
          let size = takes_as (run_takes end 2 bytes p.0 p.1)
          (λ front is. let h : IsSize (big_number 2 p.0.0) front = (is.0, ap (big_number 2) is.1) in h) in
          inr (big_number 2 p.0.0, then_at size (run_err end (big_number 2 p.0.0) p.0.1 d p.2))
    ]

pub text_breaks : (end : ℕ) (bytes : List ℕ) (d : NbtFault) → BreaksText end d bytes → text_at end bytes ≡ Err d
unfolding text_at
text_breaks end bytes d (inl is) = rw (run_short end 2 bytes d is) refl
text_breaks end bytes d (inr (n, q)) = ap (text_at end) q.parts
    ∙ rw (run_again end 2 q.front q.rest q.first.0, q.first.1) (run_short end n q.rest d q.second)

-- ---- ids

named_id : (id : ℕ) (kinds : List (Option Kind)) (kind : Option Kind) → kind_among id kinds ≡ Some kind
    → id ≡ id_of_items kind
named_id id [] kind e = absurd cc
named_id id (first ∷ others) kind e =
    elim (chosen (eqb id (id_of_items first)) _ _ _ e) [
      | inl p ↦ let same : first ≡ kind = cc (p.1) in eqb-true _ _ p.0 ∙ ap id_of_items same
      | inr p ↦ named_id id others kind p.1
    ]

unnamed_id : (id : ℕ) (kinds : List (Option Kind)) → ((kind : Option Kind) → id ≢ id_of_items kind)
    → kind_among id kinds ≡ None
unnamed_id id [] unknown = refl
unnamed_id id (first ∷ others) unknown = rw (ne_eqb id (id_of_items first) (unknown first))
    (unnamed_id id others unknown)

id_again : (kind : Option Kind) → kind_named (id_of_items kind) ≡ Some kind
unfolding kind_named
id_again None = refl
id_again (Some (kinds.Leaf leaves.Byte)) = refl
id_again (Some (kinds.Leaf leaves.Short)) = refl
id_again (Some (kinds.Leaf leaves.Int)) = refl
id_again (Some (kinds.Leaf leaves.Long)) = refl
id_again (Some (kinds.Leaf leaves.Float)) = refl
id_again (Some (kinds.Leaf leaves.Double)) = refl
id_again (Some (kinds.Leaf leaves.ByteArray)) = refl
id_again (Some (kinds.Leaf leaves.Text)) = refl
id_again (Some (kinds.Leaf leaves.IntArray)) = refl
id_again (Some (kinds.Leaf leaves.LongArray)) = refl
id_again (Some kinds.List) = refl
id_again (Some kinds.Compound) = refl

kind_or_ok : (end id : ℕ) (rest : List ℕ) (named : Option (Option Kind)) (x : Option Kind × List ℕ)
    → kind_or end id rest named ≡ Ok x → (named ≡ Some x.0) × (rest ≡ x.1)
kind_or_ok end id rest None x e = absurd (err_never x _ e)
kind_or_ok end id rest (Some kind) x e =
    let same : (kind, rest) ≡ x = ok_is (kind, rest) x e in
    (ap (λ (y : Option Kind × List ℕ). Some y.0) same, ap (λ (y : Option Kind × List ℕ). y.1) same)

kind_or_err : (end id : ℕ) (rest : List ℕ) (named : Option (Option Kind)) (d : NbtFault)
    → kind_or end id rest named ≡ Err d → (named ≡ None) × (d ≡ BadTag (end - suc (length rest)) id)
kind_or_err end id rest None d e = (refl, sym (err_is _ d e))
kind_or_err end id rest (Some kind) d e = absurd (ok_never _ d e)

pub kind_takes : (end : ℕ) (bytes : List ℕ) (x : Option Kind × List ℕ) → kind_at end bytes ≡ Ok x
    → Takes (IsByte (id_of_items x.0)) bytes x.1
unfolding kind_at kind_named
kind_takes end [] x e = absurd (err_never x _ e)
kind_takes end (id ∷ rest) x e =
    let k = kind_or_ok end id rest (kind_named id) x e in
    record {
      front = id ∷ [];
      parts = ap (λ (left : List ℕ). id ∷ left) k.1;
      holds = ap (λ (b : ℕ). b ∷ []) (named_id id all_kinds x.0 k.0);
    }

pub kind_again : (end : ℕ) (kind : Option Kind) (front rest : List ℕ)
    → IsByte (id_of_items kind) front → kind_at end (front ++ rest) ≡ Ok (kind, rest)
unfolding kind_at
kind_again end kind front rest is = ap (λ (x : List ℕ). kind_at end (x ++ rest)) is
    ∙ ap (kind_or end (id_of_items kind) rest) (id_again kind)

pub kind_err : (end : ℕ) (bytes : List ℕ) (d : NbtFault) → kind_at end bytes ≡ Err d → BreaksKind end d bytes
unfolding kind_at
kind_err end [] d e = inl (omega arith, sym (err_is _ d e))
kind_err end (id ∷ rest) d e =
    let k = kind_or_err end id rest (kind_named id) d e in
    inr (
      id,
      (λ kind same. let yes : kind_named id ≡ Some kind = ap kind_named same
          ∙ id_again kind in absurd (never kind (sym yes ∙ k.0))),
      front_byte id rest,
      k.1,
    )
  where
    never : (kind : Option Kind) → Some kind ≡ None → ⊥
    never kind e = cc

pub kind_breaks : (end : ℕ) (bytes : List ℕ) (d : NbtFault) → BreaksKind end d bytes → kind_at end bytes ≡ Err d
unfolding kind_at kind_named
kind_breaks end [] d (inl is) = ap failed (sym is.1)
kind_breaks end (b ∷ bytes) d (inl is) = absurd (omega (arith, is.0))
kind_breaks end bytes d (inr (id, unknown, q, fault)) =
    let whole : bytes ≡ id ∷ q.rest = q.parts ∙ ap (λ (x : List ℕ). x ++ q.rest) q.first in
    let place : d ≡ BadTag (end - suc (length q.rest)) id = fault ∙ ap (λ (x : List ℕ). BadTag (end - length x) id)
    whole in
    ap (kind_at end) whole ∙ ap (kind_or end id q.rest) (unnamed_id id all_kinds unknown) ∙ ap failed (sym place)
