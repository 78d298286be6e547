-- A whole input: what is read is its root, its root is read, and likewise its first fault.
use Rattle.std.proofs.Common.{◌≡◌, ◌≢◌, ℕ, suc, Bool, true, false, List, [], ◌∷◌, ◌++◌, length, Ok, Err, refl, sym}
use Rattle.std.proofs.Common.{ap, subst, ◌∙◌, inl, inr}
use Rattle.std.specs.Prelude.{◌==◌, ◌&&◌}
use Rattle.std.proofs.lemmas.Bool.{eqb-true, eqb-false, ne_eqb}
use Rattle.nbt_core.specs.declared.fault.NbtFault.{NbtFault}
use Rattle.nbt_core.specs.declared.fault.NbtFault.TheVariants.{Compressed, Truncated, NotCompound}
use Rattle.nbt_core.specs.declared.kind.Kind.TheVariants as kinds
use Rattle.nbt_core.specs.Value.{Nbt}
use Rattle.nbt_core.specs.Reading.{text_at}
use Rattle.nbt_core.specs.TreeReading.{value_at, named_at, root_at, starts_compressed}
use Rattle.nbt_core.specs.Spelling.{◌▷◌, Anything, IsByte, IsText, Spells, SpellsRoot, Root}
use Rattle.nbt_core.specs.Breaking.{BreaksNamed, IsCompressed, FaultOf}
use Rattle.nbt_core.proofs.Results.{bind_ok, bind_err, chosen, failed, ok_is, err_is, err_never, ok_never}
use Rattle.nbt_core.proofs.Fronts.{Takes, takes_then, then_at, front_byte, regroup}
use Rattle.nbt_core.proofs.Pieces.{text_takes, text_again, text_err, text_breaks}
use Rattle.nbt_core.proofs.TreeLaws.{value_takes, value_again}
use Rattle.nbt_core.proofs.FaultLaws.{value_err, value_breaks}

-- ---- roots

named_takes : (end : ℕ) (bytes : List ℕ) (t : Nbt) → named_at end bytes ≡ Ok t → Root (10 ∷ bytes) t
unfolding named_at
named_takes end bytes t e =
    let a = bind_ok (text_at end bytes) _ t e in
    let b = bind_ok (value_at end 512 kinds.Compound a.0.1) (λ root. Ok root.0) t a.2 in
    let name = text_takes end bytes a.0 a.1 in
    let payload = value_takes end 512 1 refl kinds.Compound a.0.1 b.0 b.1 in
    let byte : Takes (IsByte 10) (10 ∷ bytes) bytes = record { front = 10 ∷ []; parts = refl; holds = refl } in
    let all = takes_then byte (takes_then name payload) in
    let root : SpellsRoot b.0.0 all.front = (a.0.0, all.holds) in
    subst (Root (10 ∷ bytes)) (ok_is b.0.0 t b.2) (record {
      front = all.front;
      rest = b.0.1;
      parts = all.parts;
      first = root;
      second = tt;
    })

pub root_takes : (bytes : List ℕ) (t : Nbt) → root_at bytes ≡ Ok t → Root bytes t
unfolding root_at
root_takes [] t e = absurd (err_never t _ e)
root_takes (id ∷ rest) t e =
    elim (chosen (starts_compressed (id ∷ rest)) _ _ _ e) [
      | inl p ↦ absurd (err_never t _ p.1)
      | inr p ↦ elim (chosen (id == 10) _ _ _ p.1) [
        | inl q ↦ subst (λ (b : ℕ). Root (b ∷ rest) t) (sym (eqb-true id 10 q.0))
            (named_takes (suc (length rest)) rest t q.1)
        | inr q ↦ absurd (err_never t _ q.1)
      ]
    ]

not_compressed : (xs : List ℕ) → starts_compressed (10 ∷ xs) ≡ false
not_compressed [] = refl
not_compressed (x ∷ xs) = refl

named_root : (rest : List ℕ) → root_at (10 ∷ rest) ≡ named_at (suc (length rest)) rest
unfolding root_at
named_root rest = rw (not_compressed rest) refl

named_again : (end : ℕ) (name : List ℕ) (t : Nbt) (front rest : List ℕ)
    → (IsText name ▷ Spells kinds.Compound t 1) front → named_at end (front ++ rest) ≡ Ok t
unfolding named_at
named_again end name t front rest is =
    ap (named_at end) (regroup rest is)
    ∙ rw (
      text_again end name is.front (is.rest ++ rest) is.first,
      value_again end 512 1 refl kinds.Compound t is.rest rest is.second,
    ) refl

pub root_again : (bytes : List ℕ) (t : Nbt) → Root bytes t → root_at bytes ≡ Ok t
root_again bytes t is =
    let r = is.first.1 in
    let whole : bytes ≡ 10 ∷ (r.rest ++ is.rest) = is.parts ∙ ap (λ (x : List ℕ). x ++ is.rest)
    (r.parts ∙ ap (λ (x : List ℕ). x ++ r.rest) r.first) in
    ap root_at whole ∙ named_root (r.rest ++ is.rest) ∙ named_again _ is.first.0 t r.rest is.rest r.second

-- ---- faults

named_err : (end : ℕ) (bytes : List ℕ) (d : NbtFault) → named_at end bytes ≡ Err d → BreaksNamed end d bytes
unfolding named_at
named_err end bytes d e =
    elim (bind_err (text_at end bytes) _ d e) [
      | inl p ↦ inl (text_err end bytes d p)
      | inr a ↦ elim (bind_err (value_at end 512 kinds.Compound a.0.1) (λ root. Ok root.0) d a.2) [
        | inl p ↦ inr (
          a.0.0,
          then_at (text_takes end bytes a.0 a.1) (value_err end d 512 1 refl kinds.Compound a.0.1 p),
        )
        | inr p ↦ absurd (ok_never _ d p.2)
      ]
    ]

-- the two first bytes of a compressed input
compressed_is : (bytes : List ℕ) → starts_compressed bytes ≡ true → IsCompressed bytes
compressed_is [] e = absurd cc
compressed_is (a ∷ []) e = absurd cc
compressed_is (a ∷ b ∷ rest) e =
    let h = both (a == 31) (b == 139) e in
    record {
      front = a ∷ [];
      rest = b ∷ rest;
      parts = refl;
      first = ap (λ (x : ℕ). x ∷ []) (eqb-true a 31 h.0);
      second = record {
        front = b ∷ [];
        rest = rest;
        parts = refl;
        first = ap (λ (x : ℕ). x ∷ []) (eqb-true b 139 h.1);
        second = tt;
      };
    }
  where
    both : (p q : Bool) → (p && q) ≡ true → (p ≡ true) × (q ≡ true)
    both true q e = (refl, e)
    both false q e = absurd cc

compressed_whole : (bytes : List ℕ) → (is : IsCompressed bytes) → bytes ≡ 31 ∷ (139 ∷ is.second.rest)
compressed_whole bytes is =
    let r = is.second in
    is.parts ∙ ap (λ (x : List ℕ). x ++ is.rest) is.first ∙ ap (λ (x : List ℕ). 31 ∷ x)
    (r.parts ∙ ap (λ (x : List ℕ). x ++ r.rest) r.first)

compressed_not : (bytes : List ℕ) → starts_compressed bytes ≡ false → IsCompressed bytes → ⊥
compressed_not bytes e is =
    let yes : starts_compressed bytes ≡ true = ap starts_compressed (compressed_whole bytes is) in
    cc

pub root_err : (bytes : List ℕ) (d : NbtFault) → root_at bytes ≡ Err d → FaultOf bytes d
unfolding root_at
root_err [] d e = inl (refl, sym (err_is _ d e))
root_err (id ∷ rest) d e =
    elim (chosen (starts_compressed (id ∷ rest)) _ _ _ e) [
      | inl p ↦ inr (inl (compressed_is (id ∷ rest) p.0, sym (err_is _ d p.1)))
      | inr p ↦ elim (chosen (id == 10) _ _ _ p.1) [
        | inl q ↦ inr (inr (inr (record {
          front = id ∷ [];
          rest = rest;
          parts = refl;
          first = ap (λ (b : ℕ). b ∷ []) (eqb-true id 10 q.0);
          second = named_err (suc (length rest)) rest d q.1;
        })))
        | inr q ↦ inr (inr (inl (
          some id rest,
          compressed_not (id ∷ rest) p.0,
          not_ten id rest q.0,
          sym (err_is _ d q.1),
        )))
      ]
    ]
  where
    some : (id : ℕ) (rest : List ℕ) → (id ∷ rest) ≢ []
    some id rest e = cc

    not_ten : (id : ℕ) (rest : List ℕ) → (id == 10) ≡ false → (IsByte 10 ▷ Anything) (id ∷ rest) → ⊥
    not_ten id rest other is = eqb-false id 10 other (let whole : id ∷ rest ≡ 10 ∷ is.rest = is.parts
        ∙ ap (λ (x : List ℕ). x ++ is.rest) is.first in cc)

named_breaks : (end : ℕ) (bytes : List ℕ) (d : NbtFault) → BreaksNamed end d bytes → named_at end bytes ≡ Err d
unfolding named_at
named_breaks end bytes d (inl b) = rw (text_breaks end bytes d b) refl
named_breaks end bytes d (inr (name, q)) =
    ap (named_at end) q.parts ∙ rw (
      text_again end name q.front q.rest q.first,
      value_breaks end d 512 1 refl kinds.Compound q.rest q.second,
    ) refl

compressed_again : (bytes : List ℕ) → IsCompressed bytes → root_at bytes ≡ Err Compressed
unfolding root_at
compressed_again bytes is = ap root_at (compressed_whole bytes is)

not_compressed_is : (bytes : List ℕ) → (IsCompressed bytes → ⊥) → starts_compressed bytes ≡ false
not_compressed_is bytes plain = by_test (starts_compressed bytes) refl
  where
    by_test : (b : Bool) → starts_compressed bytes ≡ b → b ≡ false
    by_test true e = absurd (plain (compressed_is bytes e))
    by_test false e = refl

no_compound_again : (bytes : List ℕ) → bytes ≢ [] → (IsCompressed bytes → ⊥) → ((IsByte 10 ▷ Anything) bytes → ⊥)
    → root_at bytes ≡ Err NotCompound
unfolding root_at
no_compound_again [] some plain other = absurd (some refl)
no_compound_again (id ∷ rest) some plain other =
    rw (
      not_compressed_is (id ∷ rest) plain,
      ne_eqb id 10 (λ e. other (subst (λ (b : ℕ). (IsByte b ▷ Anything) (id ∷ rest)) e (front_byte id rest))),
    ) refl

root_of_nothing : root_at [] ≡ Err (Truncated 0)
unfolding root_at
root_of_nothing = refl

pub root_breaks : (bytes : List ℕ) (d : NbtFault) → FaultOf bytes d → root_at bytes ≡ Err d
root_breaks bytes d (inl (none, fault)) = ap root_at none ∙ root_of_nothing ∙ ap failed (sym fault)
root_breaks bytes d (inr (inl (is, fault))) = compressed_again bytes is ∙ ap failed (sym fault)
root_breaks bytes d (inr (inr (inl (some, plain, other, fault)))) = no_compound_again bytes some plain other
    ∙ ap failed (sym fault)
root_breaks bytes d (inr (inr (inr q))) =
    let whole : bytes ≡ 10 ∷ q.rest = q.parts ∙ ap (λ (x : List ℕ). x ++ q.rest) q.first in
    let broken : BreaksNamed (suc (length q.rest)) d q.rest =
    subst (λ (n : ℕ). BreaksNamed n d q.rest) (ap length whole) q.second in
    ap root_at whole ∙ named_root q.rest ∙ named_breaks (suc (length q.rest)) q.rest d broken
