-- Reading the members of a compound one after the other, as a loop does.
use Rattle.std.proofs.Common.{◌≡◌, ℕ, zero, suc, ◌≤◌, ◌<◌, List, [], ◌∷◌, ◌++◌, length, Some, None, Ok, Err, refl}
use Rattle.std.proofs.Common.{sym, ap, ◌∙◌, arith}
use Rattle.std.proofs.lemmas.List.{map_push}
use Rattle.nbt_core.specs.declared.fault.NbtFault.{NbtFault}
use Rattle.nbt_core.specs.declared.kind.Kind.{Kind}
use Rattle.nbt_core.specs.declared.tag.Tag.{Tag}
use Rattle.nbt_core.specs.Value.{Nbt, Members, no_members, member, members_of}
use Rattle.nbt_core.specs.View.{nbt, entries_of}
use Rattle.nbt_core.specs.Reading.{Reads, ◌>>=◌, mapped, Fails, text_at, kind_at}
use Rattle.nbt_core.specs.TreeReading.{members_at, by_kind}
use Rattle.nbt_core.proofs.Steps.{fails_too}

-- the members of one compound, and then those of another
abbrev pub join_members : Members → Members → Members
join_members no_members ms = ms
join_members (member name t front) ms = member name t (join_members front ms)

join_members-none : (front : Members) → join_members front no_members ≡ front
join_members-none no_members = refl
join_members-none (member name t ms) = ap (member name t) (join_members-none ms)

join_members-assoc : (a b c : Members) → join_members (join_members a b) c ≡ join_members a (join_members b c)
join_members-assoc no_members b c = refl
join_members-assoc (member name t a) b c = ap (member name t) (join_members-assoc a b c)

members_of-push : (ms : List (List ℕ × Nbt)) (m : List ℕ × Nbt)
    → members_of (ms ++ m ∷ []) ≡ join_members (members_of ms) (member m.0 m.1 no_members)
members_of-push [] m = refl
members_of-push (x ∷ ms) m = ap (member x.0 x.1) (members_of-push ms m)

pub members-push : (ms : List (List ℕ × Tag)) (m : List ℕ × Tag)
    → members_of (entries_of (ms ++ m ∷ [])) ≡ join_members (members_of (entries_of ms))
    (member m.0 (nbt m.1) no_members)
members-push ms m = ap members_of (map_push (λ m. (m.0, nbt m.1)) ms m) ∙ members_of-push (entries_of ms) (m.0, nbt m.1)

-- what was read before, and what is still read
abbrev pub with_members : Members → Reads Members → Reads Members
with_members front read = mapped (join_members front) read

regroup : (front : Members) (name : List ℕ) (t : Nbt) (read : Reads Members)
    → with_members front (mapped (member name t) read) ≡ with_members
    (join_members front (member name t no_members)) read
regroup front name t (Ok x) = ap (λ (ts : Members). Ok (ts, x.1))
    (sym (join_members-assoc front (member name t no_members) x.0))
regroup front name t (Err f) = refl

start : (read : Reads Members) → with_members no_members read ≡ read
start (Ok x) = refl
start (Err f) = refl

-- with `front` read so far and `bytes` left, all that is read is `total`
pub record MembersSoFar (end : ℕ) (inner : Kind → List ℕ → Reads Nbt) (front : Members) (bytes : List ℕ)
    (total : Reads Members) : Type 0 where
  pub fuel : ℕ
  pub enough : length bytes ≤ fuel
  pub read : with_members front (members_at end inner fuel bytes) ≡ total

-- what reading members does first
abbrev pub one_member : ℕ → (Kind → List ℕ → Reads Nbt) → ℕ → List ℕ → Reads Members
one_member end inner less bytes = kind_at end bytes >>= λ kind. by_kind kind.0
    (Ok (no_members, kind.1)) λ k. text_at end kind.1 >>= λ name. inner k name.1 >>=
    λ first. mapped (member name.0 first.0) (members_at end inner less first.1)

pub record Opened (end : ℕ) (inner : Kind → List ℕ → Reads Nbt) (fuel : ℕ) (bytes : List ℕ) : Type 0 where
  pub less : ℕ
  pub read : members_at end inner fuel bytes ≡ one_member end inner less bytes
  pub enough : (after : List ℕ) → length after < length bytes → length after ≤ less

pub opened : (end : ℕ) (inner : Kind → List ℕ → Reads Nbt) (fuel : ℕ) (bytes : List ℕ) → length bytes ≤ fuel
    → Opened end inner fuel bytes
unfolding members_at kind_at
opened end inner zero [] le = record { less = 0; read = refl; enough = λ after lt. omega arith }
opened end inner zero (b ∷ bytes) le = absurd (omega arith)
opened end inner (suc fuel) bytes le = record { less = fuel; read = refl; enough = λ after lt. omega arith }

module _ (end : ℕ) (inner : Kind → List ℕ → Reads Nbt) (bytes : List ℕ) where
  pub members_start : MembersSoFar end inner no_members bytes (members_at end inner (length bytes) bytes)
  members_start = record {
    fuel = length bytes;
    enough = omega arith;
    read = start (members_at end inner (length bytes) bytes);
  }

module _ (end : ℕ) (inner : Kind → List ℕ → Reads Nbt) (front : Members) (bytes : List ℕ) (total : Reads Members)
    (so_far : MembersSoFar end inner front bytes total) where
  -- the same, one member on
  first_of : Opened end inner so_far.fuel bytes
  first_of = opened end inner so_far.fuel bytes so_far.enough

  pub members_go_on : (kind : Kind) (b1 name b2 : List ℕ) (t : Nbt) (b3 : List ℕ)
      → kind_at end bytes ≡ Ok (Some kind, b1) → text_at end b1 ≡ Ok (name, b2) → inner kind b2 ≡ Ok (t, b3)
      → length b3 < length bytes
      → MembersSoFar end inner (join_members front (member name t no_members)) b3 total
  members_go_on kind b1 name b2 t b3 h1 h2 h3 lt =
      let o = first_of in
      let step : with_members front (members_at end inner so_far.fuel bytes) ≡ with_members
      (join_members front (member name t no_members)) (members_at end inner o.less b3) =
      ap (with_members front) o.read ∙ rw (h1, h2, h3) (regroup front name t (members_at end inner o.less b3)) in
      record { fuel = o.less; enough = o.enough b3 lt; read = sym step ∙ so_far.read }

  pub members_done : (b1 : List ℕ) → kind_at end bytes ≡ Ok (None, b1) → total ≡ Ok (front, b1)
  members_done b1 h1 =
      let done : with_members front (members_at end inner so_far.fuel bytes) ≡ Ok (front, b1) =
      ap (with_members front) first_of.read ∙ rw h1 (ap (λ (ms : Members). Ok (ms, b1)) (join_members-none front))
      in
      sym so_far.read ∙ done

  pub members_no_kind : (e : NbtFault) → Fails e (kind_at end bytes) → Fails e total
  members_no_kind e fails = fails_too e (kind_at end bytes) total
      (λ h. sym so_far.read ∙ ap (with_members front) first_of.read ∙ rw h refl) fails

  pub members_no_name : (kind : Kind) (b1 : List ℕ) (e : NbtFault) → kind_at end bytes ≡ Ok (Some kind, b1)
      → Fails e (text_at end b1) → Fails e total
  members_no_name kind b1 e h1 fails = fails_too e (text_at end b1) total
      (λ h. sym so_far.read ∙ ap (with_members front) first_of.read ∙ rw (h1, h) refl) fails

  pub members_no_payload : (kind : Kind) (b1 name b2 : List ℕ) (e : NbtFault) → kind_at end bytes ≡ Ok (Some kind, b1)
      → text_at end b1 ≡ Ok (name, b2) → Fails e (inner kind b2) → Fails e total
  members_no_payload kind b1 name b2 e h1 h2 fails = fails_too e (inner kind b2) total
      (λ h. sym so_far.read ∙ ap (with_members front) first_of.read ∙ rw (h1, h2, h) refl) fails
