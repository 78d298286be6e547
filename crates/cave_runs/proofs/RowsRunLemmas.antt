-- The run of rows, from what its parts do.
use Rattle.std.proofs.Common.{◌≡◌, ◌≢◌, ℕ, List, Option, refl, sym, ap, ◌∙◌, ◌⊎◌, inl, inr}
use Rattle.cave_reading.specs.Bytes.{IsFaultOfParts}
use Rattle.cave_reading.specs.declared.cave_fault.CaveFault.{CaveFault}
use Rattle.cave_reading.specs.declared.cave_fault.CaveFault.TheVariants as cave
use Rattle.cave_runs.specs.Faults.{run_fault_of}
use Rattle.cave_runs.specs.RowsRuns.{IsFaultOfRows}
use Rattle.cave_runs.specs.declared.fault.RunFault.{RunFault}
use Rattle.cave_runs.specs.declared.fault.RunFault.TheVariants as faults
use Rattle.cave_runs.proofs.RunLemmas.{never_written}

module _ (bytes : List ℕ) (table : Option (List ℕ)) where
  -- a fault of the structure or of the table, as one of the run
  pub parts_fault : (e : CaveFault) → (e ≢ cave.OutOfMemory → IsFaultOfParts bytes table e)
      → run_fault_of e ≢ faults.OutOfMemory → IsFaultOfRows bytes table (run_fault_of e)
  parts_fault cave.OutOfMemory told other = absurd (other refl)
  parts_fault (cave.Scan f) told other = (cave.Scan f, told (λ same. cc), refl)
  parts_fault (cave.Table f) told other = (cave.Table f, told (λ same. cc), refl)
  parts_fault (cave.Build f) told other = (cave.Build f, told (λ same. cc), refl)

  -- where they are refused, a fault that is due is answered, or memory was refused
  pub parts_refused : (e : CaveFault)
      → ((f : CaveFault) → IsFaultOfParts bytes table f → (e ≡ f) ⊎ (e ≡ cave.OutOfMemory))
      → (due : RunFault) → IsFaultOfRows bytes table due
      → (run_fault_of e ≡ due) ⊎ (run_fault_of e ≡ faults.OutOfMemory)
  parts_refused e refused due (inner, is, same) = elim (refused inner is) [
    | inl e ↦ inl (ap run_fault_of e ∙ sym same)
    | inr none ↦ inr (ap run_fault_of none)
  ]

  -- where they are read, no fault is due
  pub parts_clean : ((f : CaveFault) → IsFaultOfParts bytes table f → ⊥) → (due : RunFault)
      → IsFaultOfRows bytes table due → ⊥
  parts_clean clean due (inner, is, same) = clean inner is

  -- no fault is a failed write
  pub rows_unwritten : (e : RunFault) → IsFaultOfRows bytes table e → e ≡ faults.WriteFailed → ⊥
  rows_unwritten e (inner, of, same) is = never_written inner (sym same ∙ is)
