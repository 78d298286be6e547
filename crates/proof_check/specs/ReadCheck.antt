-- How the check of what a reader has left ends. This is this project's own.
use Rattle.std.specs.Prelude.{◌≡◌, ◌<◌, ℕ, List, length, Option, Result, MatchResult, IfErr, IfOk, IfSome}
use Rattle.cave_model.specs.Rule.{Rule}
use Rattle.proof_check.specs.Reading.{GivesAtMost}
use Rattle.proof_check.specs.Verdict.{IsFaultOfBytes, IsJudged, IsOfReading, IsReadAnswer, IsReadRefusal}
use Rattle.proof_check.specs.declared.fault.CheckFault.{CheckFault}
use Rattle.proof_check.specs.declared.fault.CheckFault.TheVariants as faults
use Rattle.proof_check.specs.declared.verdict.Verdict.{Verdict}

-- how the check of a certificate of at most `limit` bytes ends, of what its reader had and has
pub record IsReadCheck (structure : List ℕ) (table : Option (List ℕ)) (rule : Rule) (known rest : Option (List ℕ))
    (limit : ℕ) (result : Result Verdict CheckFault) : Type 0 where
  -- what is answered is the verdict of what the reader had
  pub found : IfOk result (λ v. IfSome known (λ bytes. IsJudged structure table rule bytes v))
  -- such a verdict is answered
  pub only : IfSome known (λ bytes. (verdict : Verdict) → IsJudged structure table rule bytes verdict
      → IsReadAnswer result verdict)
  -- a fault that isn't in the reader is the first of the structure and the table
  pub fault : IfErr result (λ e. (¬ IsOfReading e) → IsFaultOfBytes structure table e)
  -- such a fault is answered
  pub refused : (e : CheckFault) → IsFaultOfBytes structure table e → IsReadRefusal result e
  -- too long is what has more bytes than the limit; it is answered neither with a verdict nor with such a fault
  pub too_long : IfErr result (λ e. e ≡ faults.TooLong → IfSome known (λ bytes. limit < length bytes))
  pub whole : IfSome known (λ bytes. limit < length bytes → MatchResult result (λ _. ⊥) IsOfReading)
  -- a failed read comes before more than the limit was read
  pub before : IfErr result (λ e. e ≡ faults.ReadFailed → GivesAtMost limit known rest)
