-- From what the reading function gives to what the bytes spell.
use Rattle.std.proofs.Common.{◌≡◌, ◌≢◌, ℕ, List, Result, Ok, Err, refl, sym, ◌∙◌, ◌⊎◌, inl, inr}
use Rattle.std.specs.Prelude.{IfOk, IfErr}
use Rattle.nbt_core.specs.declared.fault.NbtFault.{NbtFault}
use Rattle.nbt_core.specs.declared.fault.NbtFault.TheVariants.{OutOfMemory}
use Rattle.nbt_core.specs.Value.{Nbt}
use Rattle.nbt_core.specs.Reading.{Fails, GivesWhole}
use Rattle.nbt_core.specs.TreeReading.{root_at}
use Rattle.nbt_core.specs.Spelling.{Root}
use Rattle.nbt_core.specs.Breaking.{FaultOf}
use Rattle.cave_base.specs.Answer.{IsAnswer, IsRefusal}
use Rattle.nbt_core.proofs.Results.{ok_is, err_is, err_never}
use Rattle.nbt_core.proofs.RootLaws.{root_takes, root_again, root_err, root_breaks}

module _ {X : Type 0} (view : X → Nbt) (bytes : List ℕ) where
  pub is_root : (r : Result X NbtFault) → GivesWhole view r (root_at bytes) → IfOk r (λ x. Root bytes (view x))
  is_root (Ok x) given = root_takes bytes (view x) given
  is_root (Err e) given = tt

  only_memory : (e : NbtFault) (t : Nbt) → root_at bytes ≡ Ok t → Fails e (root_at bytes) → e ≡ OutOfMemory
  only_memory OutOfMemory t is given = refl
  only_memory e t is given = absurd (err_never t e (sym given ∙ is))

  pub root_is_read : (r : Result X NbtFault) → GivesWhole view r (root_at bytes) → (t : Nbt)
      → Root bytes t → IsAnswer OutOfMemory r (λ x. view x ≡ t)
  root_is_read (Ok x) given t root = ok_is (view x) t (sym given ∙ root_again bytes t root)
  root_is_read (Err e) given t root = only_memory e t (root_again bytes t root) given

  of_fault : (e : NbtFault) → Fails e (root_at bytes) → e ≢ OutOfMemory → FaultOf bytes e
  of_fault OutOfMemory given other = absurd (other refl)
  of_fault e given other = root_err bytes e given

  pub is_fault : (r : Result X NbtFault) → GivesWhole view r (root_at bytes)
      → IfErr r (λ e. e ≢ OutOfMemory → FaultOf bytes e)
  is_fault (Ok x) given = tt
  is_fault (Err e) given = of_fault e given

  same_fault : (e f : NbtFault) → Fails e (root_at bytes) → root_at bytes ≡ Err f → (e ≡ f) ⊎ (e ≡ OutOfMemory)
  same_fault OutOfMemory f given is = inr refl
  same_fault e f given is = inl (err_is e f (sym given ∙ is))

  pub fault_is_met : (r : Result X NbtFault) → GivesWhole view r (root_at bytes) → (fault : NbtFault)
      → FaultOf bytes fault → IsRefusal OutOfMemory r fault
  fault_is_met (Ok x) given fault of = err_never (view x) fault (sym (root_breaks bytes fault of) ∙ given)
  fault_is_met (Err e) given fault of = same_fault e fault given (root_breaks bytes fault of)
