-- How steps that may fail follow one another.
use Rattle.std.proofs.Common.{◌≡◌, ℕ, zero, suc, ◌+◌, ◌-◌, List, length, Result, Err, refl, ap, arith}
use Rattle.nbt_core.specs.declared.fault.NbtFault.{NbtFault}
use Rattle.nbt_core.specs.declared.fault.NbtFault.TheVariants.{TooDeep, OutOfMemory}
use Rattle.nbt_core.specs.declared.kind.LeafKind.{LeafKind}
use Rattle.nbt_core.specs.declared.kind.Kind.TheVariants as kinds
use Rattle.nbt_core.specs.Value.{leaf}
use Rattle.nbt_core.specs.Reading.{Reads, Fails, mapped}
use Rattle.nbt_core.specs.LeafReading.{leaf_at}
use Rattle.nbt_core.specs.TreeReading.{list_at, compound_at, value_at}

-- a fault of one reading is that of another
pub fails_too : {A B : Type 0} (e : NbtFault) (r : Result A NbtFault) (s : Result B NbtFault)
    → (r ≡ Err e → s ≡ Err e) → Fails e r → Fails e s
fails_too OutOfMemory r s f h = tt
fails_too e r s f h = f h

pub mapped_fails : {A B : Type 0} (f : A → B) (e : NbtFault) (r : Reads A) → Fails e r → Fails e (mapped f r)
mapped_fails f e r fails = fails_too e r (mapped f r) (λ h. rw h refl) fails

module _ (end : ℕ) (bytes : List ℕ) where
  pub value_leaf : (room : ℕ) (kind : LeafKind) → value_at end room (kinds.Leaf kind) bytes ≡ mapped leaf
      (leaf_at end kind bytes)
  unfolding value_at
  value_leaf zero kind = refl
  value_leaf (suc room) kind = refl

  pub value_list : (room less : ℕ) → room ≡ less + 1 → value_at end room kinds.List bytes ≡ list_at end
      (value_at end less) bytes
  unfolding value_at
  value_list zero less e = absurd (omega arith)
  value_list (suc room) less e = let same : room ≡ less = omega arith in
      ap (λ (r : ℕ). list_at end (value_at end r) bytes) same

  pub value_compound : (room less : ℕ) → room ≡ less + 1 → value_at end room kinds.Compound bytes ≡ compound_at end
      (value_at end less) bytes
  unfolding value_at
  value_compound zero less e = absurd (omega arith)
  value_compound (suc room) less e = let same : room ≡ less =
      omega arith in ap (λ (r : ℕ). compound_at end (value_at end r) bytes) same

  pub value_too_deep_list : (room : ℕ) → room ≡ 0 → value_at end room kinds.List bytes ≡ Err
      (TooDeep (end - length bytes))
  unfolding value_at
  value_too_deep_list zero e = refl
  value_too_deep_list (suc room) e = absurd (omega arith)

  pub value_too_deep_compound : (room : ℕ) → room ≡ 0 → value_at end room kinds.Compound bytes ≡ Err
      (TooDeep (end - length bytes))
  unfolding value_at
  value_too_deep_compound zero e = refl
  value_too_deep_compound (suc room) e = absurd (omega arith)
