-- What is found of several fields of a payload, by its kind.
use Rattle.std.proofs.Common.{◌≡◌, ◌≢◌, ℕ, ◌+◌, ◌-◌, ◌≤◌, Bool, false, List, length, Option, None}
use Rattle.std.proofs.Common.{Result, Ok, Err, IsTrue, refl, sym, ap, ◌∙◌}
use Rattle.std.specs.Prelude.{◌↔◌}
use Rattle.nbt_core.specs.declared.fault.NbtFault.{NbtFault}
use Rattle.nbt_core.specs.declared.fault.NbtFault.TheVariants.{TooDeep}
use Rattle.nbt_core.specs.declared.kind.Kind.{Kind}
use Rattle.nbt_core.specs.declared.kind.Kind.TheVariants as kinds
use Rattle.nbt_core.specs.Value.{Nbt, compound, field}
use Rattle.nbt_core.specs.Reading.{Reads, mapped, Fails, Gives}
use Rattle.nbt_core.specs.TreeReading.{members_at, compound_at, value_at}
use Rattle.nbt_core.specs.Skipping.{IsRead}
use Rattle.nbt_core.proofs.Results.{ok_is, err_never, mapped_err}
use Rattle.nbt_core.proofs.Steps.{fails_too, value_compound, value_too_deep_compound}
use Rattle.nbt_views.proofs.KindLemmas.{kind_of, kind_read, differ}

-- a value of another kind has no fields
pub no_field : (name : List ℕ) (t : Nbt) → kind_of t ≢ kinds.Compound → ◌≡◌ {A = Option _} (field name t) None
no_field name (compound ms) other = absurd (other refl)
no_field name t other = refl

-- nor has one that was passed over as a payload of another kind
pub no_passed_field : (name : List ℕ) (end room : ℕ) (kind : Kind) (bytes left : List ℕ) (same : Bool) → room ≤ 512
    → (IsTrue same ↔ (kind ≡ kinds.Compound)) → same ≡ false → (s : IsRead (value_at end room kind bytes) left)
    → ◌≡◌ {A = Option _} (field name s.value) None
no_passed_field name end room kind bytes left same shallow iff failed s = no_field name s.value
    (λ e. differ same kind kinds.Compound iff failed (kind_read end room kind bytes (s.value, left) shallow s.is ∙ e))

-- what a reader gives of one reading it gives of another that is the same
pub gives_as : {X Y : Type 0} (view : X → Y) (r : Result X NbtFault) (left : List ℕ) (read same : Reads Y)
    → read ≡ same → Gives view r left read → Gives view r left same
gives_as view r left read same e g = rw (sym e) g

-- a compound's value by its members
mapped_twice : {A B C : Type 0} (f : B → C) (g : A → B) (r : Reads A) → mapped f (mapped g r) ≡ mapped (λ a. f (g a)) r
mapped_twice f g (Ok x) = refl
mapped_twice f g (Err e) = refl

module _ {X : Type 0} (fields : Nbt → X) (end room : ℕ) (kind : Kind) (bytes : List ℕ)
    (k : kind ≡ kinds.Compound) where
  -- what is found of a compound is found of its members
  pub fields_of_members : (less : ℕ) → room ≡ less + 1
      → mapped (λ ms. fields (compound ms)) (members_at end (value_at end less) (length bytes) bytes)
      ≡ mapped fields (value_at end room kind bytes)
  unfolding compound_at
  fields_of_members less deep =
      sym (ap (mapped fields) (ap (λ (k : Kind). value_at end room k bytes) k
      ∙ value_compound end bytes room less deep)
      ∙ mapped_twice fields compound (members_at end (value_at end less) (length bytes) bytes))

  -- a compound that is too deep has no fields
  pub fields_too_deep : room ≡ 0
      → mapped fields (value_at end room kind bytes) ≡ Err (TooDeep (end - length bytes))
  fields_too_deep none = ap (mapped fields) (ap (λ (k : Kind). value_at end room k bytes) k
      ∙ value_too_deep_compound end bytes room none)

-- a payload whose fields were found is passed over
pub record FieldsRead {X : Type 0} (fields : Nbt → X) (read : Reads Nbt) (found : X) (left : List ℕ) : Type 0 where
  pub passed : IsRead read left
  pub told : found ≡ fields passed.value

pub fields_read : {X : Type 0} (fields : Nbt → X) (read : Reads Nbt) (found : X) (left : List ℕ)
    → mapped fields read ≡ Ok (found, left) → FieldsRead fields read found left
fields_read {X} fields (Ok x) found left e =
    let both : (fields x.0, x.1) ≡ (found, left) = ok_is (fields x.0, x.1) (found, left) e in
    record {
      passed = record {
        value = x.0;
        is = ap (λ (rest : List ℕ). Ok (x.0, rest)) (ap (λ (y : X × List ℕ). y.1) both);
      };
      told = sym (ap (λ (y : X × List ℕ). y.0) both);
    }
fields_read fields (Err f) found left e = absurd (err_never (found, left) f e)

-- a fault of the fields is one of the payload
pub fields_fail : {X : Type 0} (fields : Nbt → X) (read : Reads Nbt) (e : NbtFault) → Fails e (mapped fields read)
    → Fails e read
fields_fail fields read e fails = fails_too e (mapped fields read) read (mapped_err fields read e) fails
