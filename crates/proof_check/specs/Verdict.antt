-- What is to be said of the bytes of a certificate: accepted, or the first reason against it.
-- That there are such verdicts is this project's own.
use Rattle.std.specs.Prelude.{◌≡◌, ◌⊎◌, ℕ, List, length, Option, Result, MatchResult}
use Rattle.cave_reading.specs.Bytes.{IsCaveOfBytes}
use Rattle.cave_reading.specs.Bytes as caves
use Rattle.cave_model.specs.Cave.{Cave}
use Rattle.cave_model.specs.Rule.{Rule}
use Rattle.cave_reading.specs.declared.cave_fault.CaveFault.{CaveFault}
use Rattle.proof_rules.specs.Certificate.{Certificate, torches_of}
use Rattle.proof_check.specs.Accepted.{Accepts}
use Rattle.proof_check.specs.Faults.{check_fault_of}
use Rattle.proof_check.specs.Refused.{IsRefused}
use Rattle.proof_check.specs.declared.fault.CheckFault.{CheckFault}
use Rattle.proof_check.specs.declared.fault.CheckFault.TheVariants as faults
use Rattle.proof_check.specs.declared.verdict.Verdict.{Verdict}
use Rattle.proof_check.specs.declared.verdict.Verdict.TheVariants.{Accepted, Rejected}

-- what is to be said of the bytes of a certificate of this cave
abbrev pub IsVerdictOf : Cave → List ℕ → Verdict → Type 0
IsVerdictOf cave bytes (Accepted torches) = (certificate : Certificate) × Accepts cave bytes certificate
    × (length (torches_of certificate.sections) ≡ torches)
IsVerdictOf cave bytes (Rejected reason) = IsRefused cave bytes reason

-- the verdict of the cave that the bytes of a structure tell, by the table's rows and this rule
pub record IsJudged (structure : List ℕ) (table : Option (List ℕ)) (rule : Rule) (certificate : List ℕ)
    (answer : Verdict) : Type 0 where
  pub cave : Cave
  pub told : IsCaveOfBytes structure table rule cave
  pub verdict : IsVerdictOf cave certificate answer

-- why the bytes tell no cave, as a check answers it
abbrev pub IsFaultOfBytes : List ℕ → Option (List ℕ) → CheckFault → Type 0
IsFaultOfBytes structure table fault = (inner : CaveFault) × caves.IsFaultOfBytes structure table inner
    × (fault ≡ check_fault_of inner)

-- the fault is in the reader of the certificate, or memory ran out
abbrev pub IsOfReading : CheckFault → Type 0
IsOfReading fault = (fault ≡ faults.ReadFailed) ⊎ (fault ≡ faults.TooLong) ⊎ (fault ≡ faults.OutOfMemory)

-- the verdict, unless reading failed, the text is too long or memory ran out
abbrev pub IsReadAnswer : Result Verdict CheckFault → Verdict → Type 0
IsReadAnswer r verdict = MatchResult r (λ v. v ≡ verdict) IsOfReading

-- the fault, unless reading failed, the text is too long or memory ran out
abbrev pub IsReadRefusal : Result Verdict CheckFault → CheckFault → Type 0
IsReadRefusal r fault = MatchResult r (λ _. ⊥) (λ e. (e ≡ fault) ⊎ IsOfReading e)
