-- Named payloads that are read without a fault, one after another.
use Rattle.std.proofs.Common.{◌≡◌, ◌≢◌, ℕ, zero, suc, ◌≤◌, List, [], ◌∷◌, Option, Some, None, Ok, refl, sym, ap, ◌∙◌}
use Rattle.std.proofs.Common.{arith}
use Rattle.nbt_core.specs.declared.fault.NbtFault.{NbtFault}
use Rattle.nbt_core.specs.declared.fault.NbtFault.TheVariants.{OutOfMemory}
use Rattle.nbt_core.specs.declared.kind.Kind.{Kind}
use Rattle.nbt_core.specs.Value.{Nbt, Members, no_members, member}
use Rattle.nbt_core.specs.Reading.{Reads, ◌>>=◌, mapped, Fails, text_at, kind_at}
use Rattle.nbt_core.specs.TreeReading.{members_at, by_kind}
use Rattle.nbt_core.proofs.Results.{done, bind_ok, mapped_ok, err_never}
use Rattle.nbt_core.proofs.Steps.{fails_too}
use Rattle.nbt_views.specs.Borrowed.{IsReadable, read_or}
use Rattle.nbt_views.specs.Parts.{named}
use Rattle.nbt_views.proofs.KindLemmas.{never}

-- members that are read are read with more fuel as well
pub members_more : (end : ℕ) (inner : Kind → List ℕ → Reads Nbt) (fuel more : ℕ) (bytes : List ℕ)
    (x : Members × List ℕ) → fuel ≤ more → members_at end inner fuel bytes ≡ Ok x
    → members_at end inner more bytes ≡ Ok x
unfolding members_at
members_more end inner zero more bytes x le e = absurd (err_never x _ e)
members_more end inner (suc fuel) zero bytes x le e = absurd (omega (arith, le))
members_more end inner (suc fuel) (suc more) bytes x le e =
    let a = bind_ok (kind_at end bytes) _ x e in
    rw a.1 (goes_on a.0.0 a.0.1 (λ b y h. members_more end inner fuel more b y (omega (arith, le)) h) a.2)
  where
    goes_on : (of : Option Kind) (left : List ℕ)
        → ((b : List ℕ) (y : Members × List ℕ) → members_at end inner fuel b ≡ Ok y
        → members_at end inner more b ≡ Ok y)
        → by_kind of (Ok (no_members, left)) (λ k. text_at end left >>= λ name. inner k name.1 >>=
        λ first. mapped (member name.0 first.0) (members_at end inner fuel first.1)) ≡ Ok x
        → by_kind of (Ok (no_members, left)) (λ k. text_at end left >>= λ name. inner k name.1 >>=
        λ first. mapped (member name.0 first.0) (members_at end inner more first.1)) ≡ Ok x
    goes_on None left again e = e
    goes_on (Some kind) left again e =
        let b = bind_ok (text_at end left) _ x e in
        let c = bind_ok (inner kind b.0.1) _ x b.2 in
        let d = mapped_ok (member b.0.0 c.0.0) (members_at end inner fuel c.0.1) x c.2 in
        rw (b.1, c.1, again c.0.1 d.0 d.1) (ap done {x = (member b.0.0 c.0.0 d.0.0, d.0.1)} d.2)

-- after a member, the others
pub record MemberNext (end : ℕ) (inner : Kind → List ℕ → Reads Nbt) (fuel : ℕ) (bytes name : List ℕ) (t : Nbt)
    (left : List ℕ) : Type 0 where
  pub whole : IsReadable (members_at end inner fuel left)
  pub is : named (read_or no_members (members_at end inner fuel bytes))
      ≡ (name, t) ∷ named (read_or no_members (members_at end inner fuel left))

module _ (end : ℕ) (inner : Kind → List ℕ → Reads Nbt) where
  -- a member, and the others after it
  pub member_next : (fuel : ℕ) (bytes : List ℕ) → IsReadable (members_at end inner fuel bytes)
      → (kind : Kind) (b1 name b2 : List ℕ) (t : Nbt) (b3 : List ℕ) → kind_at end bytes ≡ Ok (Some kind, b1)
      → text_at end b1 ≡ Ok (name, b2) → inner kind b2 ≡ Ok (t, b3) → MemberNext end inner fuel bytes name t b3
  unfolding members_at
  member_next zero bytes w kind b1 name b2 t b3 h1 h2 h3 = absurd (err_never (w.whole.value, w.left) _ w.whole.is)
  member_next (suc fuel) bytes w kind b1 name b2 t b3 h1 h2 h3 =
      let read : members_at end inner (suc fuel) bytes ≡ mapped (member name t) (members_at end inner fuel b3) =
      rw (h1, h2, h3) refl in
      let d = mapped_ok (member name t) (members_at end inner fuel b3) (w.whole.value, w.left)
      (sym read ∙ w.whole.is) in
      let more = members_more end inner fuel (suc fuel) b3 d.0 (omega arith) d.1 in
      record {
        whole = record { left = d.0.1; whole = record { value = d.0.0; is = more } };
        is = ap (λ (r : Reads Members). named (read_or no_members r)) read
            ∙ ap (λ (r : Reads Members). named (read_or no_members (mapped (member name t) r))) d.1
            ∙ ap (λ (r : Reads Members). (name, t) ∷ named (read_or no_members r)) (sym more);
      }

  -- at the End there is no member
  pub no_member_left : (fuel : ℕ) (bytes b1 : List ℕ) → kind_at end bytes ≡ Ok (None, b1)
      → named (read_or no_members (members_at end inner fuel bytes)) ≡ []
  unfolding members_at
  no_member_left zero bytes b1 h = refl
  no_member_left (suc fuel) bytes b1 h = rw h refl

  -- the id of a member is read without a fault
  pub member_kind_read : (fuel : ℕ) (bytes : List ℕ) → IsReadable (members_at end inner fuel bytes) → (e : NbtFault)
      → Fails e (kind_at end bytes) → e ≢ OutOfMemory → ⊥
  unfolding members_at
  member_kind_read zero bytes w e fails other = err_never (w.whole.value, w.left) _ w.whole.is
  member_kind_read (suc fuel) bytes w e fails other = never (members_at end inner (suc fuel) bytes) e w
      (fails_too e (kind_at end bytes) (members_at end inner (suc fuel) bytes) (λ h. rw h refl) fails) other

  -- so is its name
  pub member_name_read : (fuel : ℕ) (bytes : List ℕ) → IsReadable (members_at end inner fuel bytes)
      → (kind : Kind) (b1 : List ℕ) (e : NbtFault) → kind_at end bytes ≡ Ok (Some kind, b1)
      → Fails e (text_at end b1) → e ≢ OutOfMemory → ⊥
  unfolding members_at
  member_name_read zero bytes w kind b1 e h1 fails other = err_never (w.whole.value, w.left) _ w.whole.is
  member_name_read (suc fuel) bytes w kind b1 e h1 fails other = never (members_at end inner (suc fuel) bytes) e w
      (fails_too e (text_at end b1) (members_at end inner (suc fuel) bytes) (λ h. rw (h1, h) refl) fails) other

  -- and so is its payload
  pub member_payload_read : (fuel : ℕ) (bytes : List ℕ) → IsReadable (members_at end inner fuel bytes)
      → (kind : Kind) (b1 name b2 : List ℕ) (e : NbtFault) → kind_at end bytes ≡ Ok (Some kind, b1)
      → text_at end b1 ≡ Ok (name, b2) → Fails e (inner kind b2) → e ≢ OutOfMemory → ⊥
  unfolding members_at
  member_payload_read zero bytes w kind b1 name b2 e h1 h2 fails other =
      err_never (w.whole.value, w.left) _ w.whole.is
  member_payload_read (suc fuel) bytes w kind b1 name b2 e h1 h2 fails other =
      never (members_at end inner (suc fuel) bytes) e w
      (fails_too e (inner kind b2) (members_at end inner (suc fuel) bytes) (λ h. rw (h1, h2, h) refl) fails) other
