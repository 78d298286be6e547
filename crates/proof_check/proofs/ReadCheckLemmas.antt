-- How the check of what a reader has left ends, from how its parts do.
use Rattle.std.proofs.Common.{◌≡◌, ◌≢◌, ℕ, ◌<◌, ◌≤◌, List, length, Option, Some, None, Ok, Err, sym, ◌∙◌}
use Rattle.std.proofs.Common.{◌⊎◌, inl, inr, arith}
use Rattle.std.specs.Prelude.{IfSome}
use Rattle.cave_reading.specs.Bytes.{IsCaveOfBytes}
use Rattle.cave_reading.specs.Bytes as caves
use Rattle.cave_model.specs.Cave.{Cave}
use Rattle.cave_model.specs.Rule.{Rule}
use Rattle.cave_reading.specs.declared.cave_fault.CaveFault.{CaveFault}
use Rattle.cave_reading.specs.declared.cave_fault.CaveFault.TheVariants as cave
use Rattle.proof_check.specs.Faults.{check_fault_of}
use Rattle.proof_check.specs.ReadCheck.{IsReadCheck}
use Rattle.proof_check.specs.Reading.{GivesAtMost}
use Rattle.proof_check.specs.Tried.{IsTheVerdict}
use Rattle.proof_check.specs.Verdict.{IsJudged, IsOfReading}
use Rattle.proof_check.specs.declared.fault.CheckFault.{CheckFault}
use Rattle.proof_check.specs.declared.fault.CheckFault.TheVariants as faults
use Rattle.proof_check.specs.declared.verdict.Verdict.{Verdict}
use Rattle.proof_check.proofs.VerdictLemmas.{cave_clean, known_verdict, known_none, read_fault, read_refused}

-- a fault of the cave is no failed read
never_failed : (e : CaveFault) → check_fault_of e ≡ faults.ReadFailed → ⊥
never_failed (cave.Scan f) is = cc
never_failed (cave.Table f) is = cc
never_failed (cave.Build f) is = cc
never_failed cave.OutOfMemory is = cc

-- nor does it say that the text is too long
never_long : (e : CaveFault) → check_fault_of e ≡ faults.TooLong → ⊥
never_long (cave.Scan f) is = cc
never_long (cave.Table f) is = cc
never_long (cave.Build f) is = cc
never_long cave.OutOfMemory is = cc

-- text within the limit isn't longer
none_longer : (known : Option (List ℕ)) (limit : ℕ) (A : Type 0) → IfSome known (λ bytes. length bytes ≤ limit)
    → IfSome known (λ bytes. limit < length bytes → A)
none_longer None limit A within = tt
none_longer (Some bytes) limit A within =
    λ long. (let kept : length bytes ≤ limit = within in absurd (omega arith))

-- a fault of reading does of text of any length
longer_failed : (known : Option (List ℕ)) (limit : ℕ) (e : CheckFault) → IsOfReading e
    → IfSome known (λ bytes. limit < length bytes → IsOfReading e)
longer_failed None limit e failed = tt
longer_failed (Some bytes) limit e failed = λ long. failed

-- what only a read meets
pub of_reader : (e : CheckFault) → (e ≡ faults.ReadFailed) ⊎ (e ≡ faults.TooLong) → IsOfReading e
of_reader e (inl failed) = inl failed
of_reader e (inr long) = inr (inl long)

module _ (structure : List ℕ) (table : Option (List ℕ)) (rule : Rule) where
  -- with a fault of reading there is no verdict
  unjudged : (known : Option (List ℕ)) (e : CheckFault) → IsOfReading e
      → IfSome known (λ bytes. (verdict : Verdict) → IsJudged structure table rule bytes verdict → IsOfReading e)
  unjudged None e failed = tt
  unjudged (Some bytes) e failed = λ verdict judged. failed

  -- the verdict of the cave at hand
  judged : (known : Option (List ℕ)) (here : Cave) (given : Verdict) → IsCaveOfBytes structure table rule here
      → IfSome known (λ bytes. IsTheVerdict here bytes given)
      → IfSome known (λ bytes. IsJudged structure table rule bytes given)
  judged None here given told is = tt
  judged (Some bytes) here given told is = record { cave = here; told = told; verdict = is.is }

  module _ (known rest : Option (List ℕ)) (limit : ℕ) where
    -- a check that ends with a fault of reading
    pub check_unread : (e : CheckFault) → IsOfReading e
        → (e ≡ faults.TooLong → IfSome known (λ bytes. limit < length bytes))
        → (e ≡ faults.ReadFailed → GivesAtMost limit known rest)
        → IsReadCheck structure table rule known rest limit (Err e)
    check_unread e failed long before = record {
      found = tt;
      only = unjudged known e failed;
      fault = λ other. absurd (other failed);
      refused = λ due is. inr failed;
      too_long = long;
      whole = longer_failed known limit e failed;
      before = before;
    }

    -- one that ends with the verdict of the cave at hand
    pub check_judged : (here : Cave) (given : Verdict) → IsCaveOfBytes structure table rule here
        → ((other : Cave) → IsCaveOfBytes structure table rule other → here ≡ other)
        → ((f : CaveFault) → caves.IsFaultOfBytes structure table f → ⊥)
        → IfSome known (λ bytes. IsTheVerdict here bytes given) → IfSome known (λ bytes. length bytes ≤ limit)
        → IsReadCheck structure table rule known rest limit (Ok given)
    check_judged here given told only clean is within = record {
      found = judged known here given told is;
      only = known_verdict structure table rule known here given only is;
      fault = tt;
      refused = λ due of. cave_clean structure table clean due of;
      too_long = tt;
      whole = none_longer known limit ⊥ within;
      before = tt;
    }

    -- one that ends with a fault of the cave, of text within the limit
    pub check_refused : (e : CaveFault) (given : CheckFault) → given ≡ check_fault_of e
        → ((other : Cave) → IsCaveOfBytes structure table rule other → e ≡ cave.OutOfMemory)
        → (e ≢ cave.OutOfMemory → caves.IsFaultOfBytes structure table e)
        → ((f : CaveFault) → caves.IsFaultOfBytes structure table f → (e ≡ f) ⊎ (e ≡ cave.OutOfMemory))
        → IfSome known (λ bytes. length bytes ≤ limit) → IsReadCheck structure table rule known rest limit (Err given)
    check_refused e given same only told refused within = record {
      found = tt;
      only = known_none structure table rule known e given same only;
      fault = read_fault structure table e given same told;
      refused = read_refused structure table e given same refused;
      too_long = λ long. absurd (never_long e (sym same ∙ long));
      whole = none_longer known limit (IsOfReading given) within;
      before = λ failed. absurd (never_failed e (sym same ∙ failed));
    }
