-- The last members of some names, found in one walk over a compound.
use Rattle.std.proofs.Common.{◌≡◌, ℕ, ◌<◌, List, length, Bool, true, false, Option, Some, None, Ok, refl, sym, ap, ◌∙◌}
use Rattle.std.specs.Prelude.{bytes_eq, if◌then◌else◌}
use Rattle.std.specs.Option.{option_or}
use Rattle.nbt_core.specs.declared.fault.NbtFault.{NbtFault}
use Rattle.nbt_core.specs.declared.kind.Kind.{Kind}
use Rattle.nbt_core.specs.Value.{Nbt, Members, no_members, member, last_named}
use Rattle.nbt_core.specs.Reading.{Reads, mapped, Fails, text_at, kind_at}
use Rattle.nbt_core.specs.TreeReading.{members_at}
use Rattle.nbt_core.specs.Skipping.{IsRead}
use Rattle.nbt_core.proofs.Steps.{mapped_fails}
use Rattle.nbt_core.proofs.MembersLoop.{MembersSoFar, join_members, members_start, members_go_on, members_done}
use Rattle.nbt_core.proofs.MembersLoop.{members_no_kind, members_no_name, members_no_payload}

-- the last member of a name, where one more comes after the others
last_named-more : (name key : List ℕ) (t : Nbt) (front : Members)
    → last_named name (join_members front (member key t no_members))
    ≡ (if bytes_eq key name then Some t else last_named name front)
last_named-more name key t no_members = refl
last_named-more name key t (member other u ms) =
    ap (λ (found : Option Nbt). option_or found (if bytes_eq other name then Some u else None))
    (last_named-more name key t ms) ∙ either (bytes_eq key name)
  where
    either : (is : Bool) → option_or (if is then Some t else last_named name ms)
        (if bytes_eq other name then Some u else None)
        ≡ (if is then Some t else option_or (last_named name ms) (if bytes_eq other name then Some u else None))
    either true = refl
    either false = refl

-- the same of what was found before and of the value that is seen
pub one_more : (name key : List ℕ) (t : Nbt) (front : Members) (value : Nbt) (before after : Option Nbt)
    → value ≡ t → before ≡ last_named name front → after ≡ (if bytes_eq key name then Some value else before)
    → after ≡ last_named name (join_members front (member key t no_members))
one_more name key t front value before after v b a =
    a ∙ rw (v, b) (sym (last_named-more name key t front))

-- some members were passed over, of which these were found, and with those that are left they are all
pub record FieldsPassed {X : Type 0} (end : ℕ) (inner : Kind → List ℕ → Reads Nbt) (named : Members → X) (found : X)
    (bytes : List ℕ) (total : Reads Members) : Type 0 where
  pub front : Members
  pub so_far : MembersSoFar end inner front bytes total
  pub told : found ≡ named front

-- before the first member
pub no_field_passed : {X : Type 0} (end : ℕ) (inner : Kind → List ℕ → Reads Nbt) (named : Members → X)
    (bytes : List ℕ)
    → FieldsPassed end inner named (named no_members) bytes (members_at end inner (length bytes) bytes)
no_field_passed end inner named bytes = record {
  front = no_members;
  so_far = members_start end inner bytes;
  told = refl;
}

module _ {X : Type 0} (end : ℕ) (inner : Kind → List ℕ → Reads Nbt) (named : Members → X) (found : X)
    (bytes : List ℕ) (total : Reads Members) (so_far : FieldsPassed end inner named found bytes total) where
  -- one member on
  pub field_passed : (kind : Kind) (b1 name b2 b3 : List ℕ) → kind_at end bytes ≡ Ok (Some kind, b1)
      → text_at end b1 ≡ Ok (name, b2) → (s : IsRead (inner kind b2) b3) → length b3 < length bytes
      → (more : X) → more ≡ named (join_members so_far.front (member name s.value no_members))
      → FieldsPassed end inner named more b3 total
  field_passed kind b1 name b2 b3 h1 h2 s lt more told = record {
    front = join_members so_far.front (member name s.value no_members);
    so_far = members_go_on end inner so_far.front bytes total so_far.so_far kind b1 name b2 s.value b3 h1 h2 s.is lt;
    told = told;
  }

  -- at the End
  pub fields_passed : (b1 : List ℕ) → kind_at end bytes ≡ Ok (None, b1) → mapped named total ≡ Ok (found, b1)
  fields_passed b1 h =
      ap (mapped named) (members_done end inner so_far.front bytes total so_far.so_far b1 h)
      ∙ ap (λ (x : X). Ok (x, b1)) (sym so_far.told)

  -- a fault of the next id
  pub fields_no_kind : (e : NbtFault) → Fails e (kind_at end bytes) → Fails e (mapped named total)
  fields_no_kind e fails = mapped_fails named e total
      (members_no_kind end inner so_far.front bytes total so_far.so_far e fails)

  -- of the next name
  pub fields_no_name : (kind : Kind) (b1 : List ℕ) (e : NbtFault) → kind_at end bytes ≡ Ok (Some kind, b1)
      → Fails e (text_at end b1) → Fails e (mapped named total)
  fields_no_name kind b1 e h1 fails = mapped_fails named e total
      (members_no_name end inner so_far.front bytes total so_far.so_far kind b1 e h1 fails)

  -- and of the next payload
  pub fields_no_payload : (kind : Kind) (b1 name b2 : List ℕ) (e : NbtFault) → kind_at end bytes ≡ Ok (Some kind, b1)
      → text_at end b1 ≡ Ok (name, b2) → Fails e (inner kind b2) → Fails e (mapped named total)
  fields_no_payload kind b1 name b2 e h1 h2 fails = mapped_fails named e total
      (members_no_payload end inner so_far.front bytes total so_far.so_far kind b1 name b2 e h1 h2 fails)
