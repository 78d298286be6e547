-- From what is found of a whole input to what the bytes spell, where no memory is wanted.
use Rattle.std.proofs.Common.{◌≡◌, ◌≢◌, ℕ, List, Result, Ok, Err, MatchResult, IfErr, ⊎_elim, refl, sym, ap, ◌∙◌}
use Rattle.std.specs.Prelude.{IfOk}
use Rattle.nbt_core.specs.declared.fault.NbtFault.{NbtFault}
use Rattle.nbt_core.specs.declared.fault.NbtFault.TheVariants.{OutOfMemory}
use Rattle.nbt_core.specs.Value.{Nbt}
use Rattle.nbt_core.specs.Reading.{Fails, GivesWhole}
use Rattle.nbt_core.specs.TreeReading.{root_at}
use Rattle.nbt_core.specs.Spelling.{Root}
use Rattle.nbt_core.specs.Breaking.{FaultOf}
use Rattle.nbt_core.proofs.Results.{ok_is, err_is, err_never, failed}
use Rattle.nbt_core.proofs.RootLaws.{root_takes, root_again}
use Rattle.nbt_core.proofs.ReadRoot.{root_is_read, is_fault, fault_is_met}
use Rattle.nbt_core.proofs.Steps.{fails_too}
use Rattle.nbt_views.specs.Fields.{changed}

module _ {X : Type 0} (fields : Nbt → X) where
  -- what is found is found of what was read
  changed_ok : (read : Result Nbt NbtFault) (found : X) → changed fields read ≡ Ok found → (t : Nbt)
      × (read ≡ Ok t) × (found ≡ fields t)
  changed_ok (Ok t) found e = (t, refl, sym (ok_is (fields t) found e))
  changed_ok (Err d) found e = absurd (err_never found d e)

  changed_err : (read : Result Nbt NbtFault) (d : NbtFault) → changed fields read ≡ Err d → read ≡ Err d
  changed_err (Ok t) d e = absurd cc
  changed_err (Err c) d e = let same : c ≡ d = err_is {A = X} c d e in ap (failed {A = Nbt}) same

  -- a fault of what is found is one of what was read
  changed_fails : (read : Result Nbt NbtFault) (e : NbtFault) → Fails e (changed fields read) → Fails e read
  changed_fails read e fails = fails_too e (changed fields read) read (changed_err read e) fails

  module _ (bytes : List ℕ) where
    -- what is found is found of a root that the bytes begin with
    pub root_is_found : (r : Result X NbtFault) → GivesWhole (λ found. found) r (changed fields (root_at bytes))
        → IfOk r (λ found. (t : Nbt) × Root bytes t × (found ≡ fields t))
    root_is_found (Ok found) given =
        let read = changed_ok (root_at bytes) found given in
        (read.0, root_takes bytes read.0 read.1, read.2)
    root_is_found (Err e) given = tt

    -- and of each such root
    pub only_root_is_found : (r : Result X NbtFault)
        → GivesWhole (λ found. found) r (changed fields (root_at bytes)) → IfErr r (λ e. e ≢ OutOfMemory)
        → (t : Nbt) → Root bytes t → MatchResult r (λ found. found ≡ fields t) (λ _. ⊥)
    only_root_is_found (Ok found) given other t root =
        ok_is found (fields t) (sym given ∙ ap (changed fields) (root_again bytes t root))
    only_root_is_found (Err e) given other t root =
        other (root_is_read (λ (v : Nbt). v) bytes (Err e) (changed_fails (root_at bytes) e given) t root)

    -- a fault that is answered is one of the bytes
    pub fault_is_its : (r : Result X NbtFault) → GivesWhole (λ found. found) r (changed fields (root_at bytes))
        → IfErr r (λ e. e ≢ OutOfMemory) → IfErr r (λ e. FaultOf bytes e)
    fault_is_its (Ok found) given other = tt
    fault_is_its (Err e) given other =
        is_fault (λ (v : Nbt). v) bytes (Err e) (changed_fails (root_at bytes) e given) other

    -- a fault of the bytes is answered
    pub fault_is_answered : (r : Result X NbtFault)
        → GivesWhole (λ found. found) r (changed fields (root_at bytes)) → IfErr r (λ e. e ≢ OutOfMemory)
        → (fault : NbtFault) → FaultOf bytes fault → MatchResult r (λ _. ⊥) (λ e. e ≡ fault)
    fault_is_answered (Ok found) given other fault of =
        let read = changed_ok (root_at bytes) found given in
        fault_is_met (λ (v : Nbt). v) bytes (Ok read.0) read.1 fault of
    fault_is_answered (Err e) given other fault of =
        ⊎_elim (λ same. same) (λ memory. absurd (other memory))
        (fault_is_met (λ (v : Nbt). v) bytes (Err e) (changed_fails (root_at bytes) e given) fault of)
