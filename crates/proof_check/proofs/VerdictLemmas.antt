-- Verdicts and faults, from those of the cave.
use Rattle.std.proofs.Common.{◌≡◌, ◌≢◌, ℕ, List, Option, Some, None, refl, sym, ap, subst, ◌∙◌, ◌⊎◌, inl, inr}
use Rattle.std.specs.Prelude.{IfSome}
use Rattle.cave_reading.specs.Bytes.{IsCaveOfBytes}
use Rattle.cave_reading.specs.Bytes as caves
use Rattle.cave_model.specs.Cave.{Cave}
use Rattle.cave_model.specs.Rule.{Rule}
use Rattle.cave_reading.specs.declared.cave_fault.CaveFault.{CaveFault}
use Rattle.cave_reading.specs.declared.cave_fault.CaveFault.TheVariants as cave
use Rattle.proof_check.specs.Faults.{check_fault_of}
use Rattle.proof_check.specs.Tried.{IsTheVerdict}
use Rattle.proof_check.specs.Verdict.{IsJudged, IsFaultOfBytes, IsOfReading}
use Rattle.proof_check.specs.declared.fault.CheckFault.{CheckFault}
use Rattle.proof_check.specs.declared.fault.CheckFault.TheVariants as faults
use Rattle.proof_check.specs.declared.verdict.Verdict.{Verdict}

module _ (structure : List ℕ) (table : Option (List ℕ)) where
  -- a fault of the cave is one of the bytes
  pub cave_fault : (e : CaveFault) → (e ≢ cave.OutOfMemory → caves.IsFaultOfBytes structure table e)
      → check_fault_of e ≢ faults.OutOfMemory → IsFaultOfBytes structure table (check_fault_of e)
  cave_fault cave.OutOfMemory told other = absurd (other refl)
  cave_fault (cave.Scan f) told other = (cave.Scan f, told (λ same. cc), refl)
  cave_fault (cave.Table f) told other = (cave.Table f, told (λ same. cc), refl)
  cave_fault (cave.Build f) told other = (cave.Build f, told (λ same. cc), refl)

  -- where the cave is refused, a fault that is due is answered, or memory was refused
  pub cave_refused : (e : CaveFault)
      → ((f : CaveFault) → caves.IsFaultOfBytes structure table f → (e ≡ f) ⊎ (e ≡ cave.OutOfMemory))
      → (due : CheckFault) → IsFaultOfBytes structure table due → (check_fault_of e ≡ due)
      ⊎ (check_fault_of e ≡ faults.OutOfMemory)
  cave_refused e refused due (inner, is, same) = elim (refused inner is) [
    | inl e ↦ inl (ap check_fault_of e ∙ sym same)
    | inr none ↦ inr (ap check_fault_of none)
  ]

  -- where there is a cave, no fault is due
  pub cave_clean : ((f : CaveFault) → caves.IsFaultOfBytes structure table f → ⊥) → (due : CheckFault)
      → IsFaultOfBytes structure table due → ⊥
  cave_clean clean due (inner, is, same) = clean inner is

  module _ (rule : Rule) (certificate : List ℕ) where
    -- where there is no cave, there is no verdict
    pub no_cave : (e : CaveFault) → ((other : Cave) → IsCaveOfBytes structure table rule other → e ≡ cave.OutOfMemory)
        → (verdict : Verdict) → IsJudged structure table rule certificate verdict
        → check_fault_of e ≡ faults.OutOfMemory
    no_cave e only verdict j = ap check_fault_of (only j.cave j.told)

    -- of the cave at hand there is one verdict
    pub one_verdict : (here : Cave) (given : Verdict)
        → ((other : Cave) → IsCaveOfBytes structure table rule other → here ≡ other)
        → IsTheVerdict here certificate given → (verdict : Verdict) → IsJudged structure table rule certificate verdict
        → given ≡ verdict
    one_verdict here given only is verdict j =
        (subst (λ (c : Cave). IsTheVerdict c certificate given) (only j.cave j.told) is).only verdict j.verdict

  module _ (rule : Rule) where
    -- what is said of the bytes that were read, said of those that the reader had
    pub known_verdict : (known : Option (List ℕ)) (here : Cave) (given : Verdict)
        → ((other : Cave) → IsCaveOfBytes structure table rule other → here ≡ other)
        → IfSome known (λ bytes. IsTheVerdict here bytes given)
        → IfSome known (λ bytes. (verdict : Verdict) → IsJudged structure table rule bytes verdict → given ≡ verdict)
    known_verdict None here given only is = tt
    known_verdict (Some bytes) here given only is = one_verdict rule bytes here given only is

    -- with a fault of the cave, known bytes are judged only where memory was refused
    pub known_none : (known : Option (List ℕ)) (e : CaveFault) (fault : CheckFault) → fault ≡ check_fault_of e
        → ((other : Cave) → IsCaveOfBytes structure table rule other → e ≡ cave.OutOfMemory)
        → IfSome known (λ bytes. (verdict : Verdict) → IsJudged structure table rule bytes verdict → IsOfReading fault)
    known_none None e fault same only = tt
    known_none (Some bytes) e fault same only = λ verdict j. inr (inr (same ∙ no_cave rule bytes e only verdict j))

  -- a fault of the cave is the fault that is due
  pub read_fault : (e : CaveFault) (fault : CheckFault) → fault ≡ check_fault_of e
      → (e ≢ cave.OutOfMemory → caves.IsFaultOfBytes structure table e) → (¬ IsOfReading fault)
      → IsFaultOfBytes structure table fault
  read_fault e fault same told other = subst (IsFaultOfBytes structure table) (sym same)
      (cave_fault e told (λ none. other (inr (inr (same ∙ none)))))

  -- a fault that is due is the one told, or reading or memory failed
  pub read_refused : (e : CaveFault) (fault : CheckFault) → fault ≡ check_fault_of e
      → ((f : CaveFault) → caves.IsFaultOfBytes structure table f → (e ≡ f) ⊎ (e ≡ cave.OutOfMemory))
      → (due : CheckFault) → IsFaultOfBytes structure table due → (fault ≡ due) ⊎ IsOfReading fault
  read_refused e fault same refused due is = elim (cave_refused e refused due is) [
    | inl f ↦ inl (same ∙ f)
    | inr none ↦ inr (inr (inr (same ∙ none)))
  ]
