-- What a check answers, from what its parts do.
use Rattle.std.proofs.Common.{◌≡◌, ℕ, ◌<◌, ◌≤◌, List, [], length, Option, Some, None, Result, Ok, Err, refl, sym, ap}
use Rattle.std.proofs.Common.{subst, ◌∙◌, ◌⊎◌, inl, inr, arith}
use Rattle.std.specs.Prelude.{IfSome, MatchResult}
use Rattle.std.proofs.KnownBytes.{Consumes-nil, Keeps-refl}
use Rattle.cave_model.specs.Cave.{Cave, IsSound}
use Rattle.cave_model.specs.Rule.{Rule, IsRule}
use Rattle.cave_reading.specs.Bytes.{IsCaveOfBytes}
use Rattle.cave_reading.proofs.ToldLemmas.{told_sound}
use Rattle.cave_reading.specs.declared.cave_fault.CaveFault.{CaveFault}
use Rattle.cave_reading.specs.declared.cave_fault.CaveFault.TheVariants as cave
use Rattle.proof_check.specs.Faults as check_faults
use Rattle.proof_check.specs.Verdict as verdicts
use Rattle.proof_check.proofs.FewestLemmas.{best_plan}
use Rattle.proof_check.specs.ReadCheck.{IsReadCheck}
use Rattle.proof_check.specs.Reading.{GivesAtMost}
use Rattle.proof_check.specs.Verdict.{IsJudged, IsOfReading, IsReadAnswer, IsVerdictOf}
use Rattle.proof_check.specs.declared.fault.CheckFault.{CheckFault}
use Rattle.proof_check.specs.declared.fault.CheckFault.TheVariants as check
use Rattle.proof_check.specs.declared.verdict.Verdict.{Verdict}
use Rattle.proof_check.specs.declared.verdict.Verdict.TheVariants.{Accepted}
use Rattle.cave_runs.specs.CheckRuns.{IsExcuse, IsSaid, SaysIt, IsNoVerdict, IsTrusted, IsUnread, IsWhole}
use Rattle.cave_runs.specs.CheckRuns.{Judges, LeavesLine, ShowsFewest, verdict_line}
use Rattle.cave_runs.specs.Faults.{run_fault_of, of_check}
use Rattle.cave_runs.specs.Limits.{structure_limit, proof_limit}
use Rattle.cave_runs.specs.RunOfCheck.{IsRunOfCheck}
use Rattle.cave_runs.specs.Runs.{IsFaultOfBytes}
use Rattle.cave_runs.specs.Streams.{Stream, Takes, TakesFront, inputs, stream}
use Rattle.cave_runs.specs.TextRuns.{IsOfInput}
use Rattle.cave_runs.specs.declared.fault.Input.{Input}
use Rattle.cave_runs.specs.declared.fault.Input.TheVariants.{ProofInput, StructureInput}
use Rattle.cave_runs.specs.declared.fault.RunFault.{RunFault}
use Rattle.cave_runs.specs.declared.fault.RunFault.TheVariants as faults
use Rattle.cave_runs.proofs.RunLemmas.{IsNotRead, IsTooLong, input_fault, input_refused, long_input, long_refused}
use Rattle.cave_runs.proofs.RunLemmas.{unwritten}

-- ---- verdicts

-- an excuse does for any verdict
excused : (r : Result Verdict RunFault) (e : RunFault) (structure table : Option (List ℕ)) (rule : Rule)
    (certificate : Option (List ℕ)) → r ≡ Err e → IsExcuse e → SaysIt structure table rule certificate r
excused r e None table rule certificate is excuse = tt
excused r e (Some bytes) table rule None is excuse = tt
excused r e (Some bytes) table rule (Some text) is excuse = λ verdict judged. rw is excuse

reading_excuse : (e : RunFault) (input : Input) → (e ≡ faults.ReadFailed) ⊎ (e ≡ faults.TooLong input)
    ⊎ (e ≡ faults.OutOfMemory) → IsExcuse e
reading_excuse e input (inl failed) = inl failed
reading_excuse e input (inr (inl long)) = inr (inr (inr (input, long)))
reading_excuse e input (inr (inr none)) = inr (inr (inl none))

check_excuse : (e : CheckFault) → IsOfReading e → IsExcuse (of_check e)
check_excuse e (inl failed) = inl (ap of_check failed)
check_excuse e (inr (inl long)) = inr (inr (inr (ProofInput, ap of_check long)))
check_excuse e (inr (inr none)) = inr (inr (inl (ap of_check none)))

-- what is answered of the bytes that were read, said of those that the reader had
said : (inner : Result Verdict CheckFault) (r : Result Verdict RunFault) (structure : Option (List ℕ))
    (bytes : List ℕ) (table : Option (List ℕ)) (rule : Rule) (certificate : Option (List ℕ))
    → IfSome structure (λ b. bytes ≡ b)
    → IfSome certificate (λ text. (verdict : Verdict) → IsJudged bytes table rule text verdict
    → IsReadAnswer inner verdict)
    → ((verdict : Verdict) → IsReadAnswer inner verdict → IsSaid r verdict) → SaysIt structure table rule certificate r
said inner r None bytes table rule certificate same only lifted = tt
said inner r (Some b) bytes table rule None same only lifted = tt
said inner r (Some b) bytes table rule (Some text) same only lifted =
    λ verdict judged. lifted verdict (only verdict (subst (λ (x : List ℕ). IsJudged x table rule text verdict)
    (sym same) judged))

said_err : (e : CheckFault) (f : RunFault) (r : Result Verdict RunFault) → r ≡ Err f → f ≡ of_check e
    → (verdict : Verdict) → IsReadAnswer (Err e) verdict → IsSaid r verdict
said_err e f r is same verdict answer = rw is (subst IsExcuse (sym same) (check_excuse e answer))

-- ---- faults

of_both : (e : CheckFault) (inner : CaveFault) → e ≡ check_faults.check_fault_of inner → of_check e ≡ run_fault_of inner
of_both e (cave.Scan f) is = ap of_check is
of_both e (cave.Table f) is = ap of_check is
of_both e (cave.Build f) is = ap of_check is
of_both e cave.OutOfMemory is = ap of_check is

told_fault : (bytes : List ℕ) (table : Option (List ℕ)) (e : CheckFault) → verdicts.IsFaultOfBytes bytes table e
    → IsFaultOfBytes bytes table (of_check e)
told_fault bytes table e (inner, is, same) = (inner, is, of_both e inner same)

no_verdict : (e : CheckFault) (structure : Option (List ℕ)) (bytes : List ℕ)
    (table certificate : Option (List ℕ)) → IfSome structure (λ b. bytes ≡ b) → length bytes ≤ structure_limit
    → ((¬ IsOfReading e) → verdicts.IsFaultOfBytes bytes table e)
    → (e ≡ check.TooLong → IfSome certificate (λ text. proof_limit < length text))
    → IsOfInput (of_check e) → IsNoVerdict structure table certificate (of_check e)
no_verdict e structure bytes table certificate same within told long of_input = by e told long of_input
  where
    of_cave : (e : CheckFault) → verdicts.IsFaultOfBytes bytes table e
        → IsNoVerdict structure table certificate (of_check e)
    of_cave e is = inl (input_fault (λ b f. IsFaultOfBytes b table f) structure bytes (of_check e) same within
        (told_fault bytes table e is))

    by : (e : CheckFault) → ((¬ IsOfReading e) → verdicts.IsFaultOfBytes bytes table e)
        → (e ≡ check.TooLong → IfSome certificate (λ text. proof_limit < length text)) → IsOfInput (of_check e)
        → IsNoVerdict structure table certificate (of_check e)
    by (check.Scan f) told long of_input = of_cave (check.Scan f)
        (told (λ r. elim r [ inl e ↦ cc | inr r ↦ elim r [ inl e ↦ cc | inr e ↦ cc ] ]))
    by (check.Table f) told long of_input = of_cave (check.Table f)
        (told (λ r. elim r [ inl e ↦ cc | inr r ↦ elim r [ inl e ↦ cc | inr e ↦ cc ] ]))
    by (check.Build f) told long of_input = of_cave (check.Build f)
        (told (λ r. elim r [ inl e ↦ cc | inr r ↦ elim r [ inl e ↦ cc | inr e ↦ cc ] ]))
    by check.ReadFailed told long of_input = absurd (of_input.0 refl)
    by check.TooLong told long of_input = inr (refl, long refl)
    by check.OutOfMemory told long of_input = absurd (of_input.2 refl)

-- a fault of the bytes is answered as that of the check, or another one is in the way
unsaid : (bytes : List ℕ) (table : Option (List ℕ)) (e : CheckFault)
    → ((f : CheckFault) → verdicts.IsFaultOfBytes bytes table f → (e ≡ f) ⊎ IsOfReading e)
    → (due : RunFault) → IsFaultOfBytes bytes table due → (of_check e ≡ due) ⊎ (of_check e ≡ faults.ReadFailed)
    ⊎ (of_check e ≡ faults.TooLong ProofInput) ⊎ (of_check e ≡ faults.OutOfMemory)
unsaid bytes table e refused due (inner, is, same) = elim
    (refused (check_faults.check_fault_of inner) (inner, is, refl)) [
      | inl e ↦ inl (ap of_check e ∙ of_both (check_faults.check_fault_of inner) inner refl ∙ sym same)
      | inr r ↦ inr (elim r [
        | inl failed ↦ inl (ap of_check failed)
        | inr r ↦ inr (elim r [
          | inl long ↦ inl (ap of_check long)
          | inr none ↦ inr (ap of_check none)
        ])
      ])
    ]

-- where there is a verdict, no fault is due
none_due : (bytes : List ℕ) (table : Option (List ℕ))
    → ((f : CheckFault) → verdicts.IsFaultOfBytes bytes table f → ⊥) → (due : RunFault)
    → IsFaultOfBytes bytes table due → ⊥
none_due bytes table clean due (inner, is, same) = clean (check_faults.check_fault_of inner) (inner, is, refl)

-- ---- what an accepted certificate tells

-- the torches of a certificate that was accepted are safe and the fewest
accepted_best : (bytes : List ℕ) (table : Option (List ℕ)) (rule : Rule) (text : List ℕ) (world : Cave)
    (verdict : Verdict) (torches : ℕ) → IsSound world → IsCaveOfBytes bytes table rule world
    → verdict ≡ Accepted torches → IsVerdictOf world text verdict → ShowsFewest bytes table rule text torches
accepted_best bytes table rule text world verdict torches sound told is of_it =
    let judged = subst (IsVerdictOf world text) is of_it in record {
      cave = world;
      told = told;
      certificate = judged.0;
      accepted = judged.1;
      number = judged.2;
      best = best_plan world text judged.0 sound judged.1;
    }

-- and so are those of one of what both readers had
trusted : (structure : Option (List ℕ)) (bytes : List ℕ) (table : Option (List ℕ)) (rule : Rule)
    (certificate : Option (List ℕ)) (verdict : Verdict) → IsRule rule → IfSome structure (λ b. bytes ≡ b)
    → IfSome certificate (λ text. IsJudged bytes table rule text verdict)
    → IsTrusted structure table rule certificate verdict
trusted None bytes table rule certificate verdict rules same judged = tt
trusted (Some b) bytes table rule None verdict rules same judged = tt
trusted (Some b) bytes table rule (Some text) verdict rules same judged = λ torches is.
    accepted_best b table rule text judged.cave verdict torches
    (told_sound bytes table rule judged.cave rules judged.told).sound
    (subst (λ (x : List ℕ). IsCaveOfBytes x table rule judged.cave) same judged.told) is judged.verdict

-- ---- limits

reading_unread : (e : RunFault) (input : Input) → (e ≡ faults.ReadFailed) ⊎ (e ≡ faults.TooLong input)
    ⊎ (e ≡ faults.OutOfMemory) → IsUnread e
reading_unread e input (inl failed) = inl failed
reading_unread e input (inr (inl long)) = inr (inr (input, long))
reading_unread e input (inr (inr none)) = inr (inl none)

check_unread : (e : CheckFault) → IsOfReading e → IsUnread (of_check e)
check_unread e (inl failed) = inl (ap of_check failed)
check_unread e (inr (inl long)) = inr (inr (ProofInput, ap of_check long))
check_unread e (inr (inr none)) = inr (inl (ap of_check none))

-- what wasn't read has no verdict
whole_unread : (certificate : Option (List ℕ)) (r : Result Verdict RunFault) (e : RunFault) → r ≡ Err e
    → IsUnread e → IsWhole certificate r
whole_unread None r e is unread = tt
whole_unread (Some text) r e is unread = λ long. rw is unread

-- what a check answers of a certificate that is too long
abbrev WholeChecked : Option (List ℕ) → Result Verdict CheckFault → Type 0
WholeChecked certificate inner =
    IfSome certificate (λ text. proof_limit < length text → MatchResult inner (λ _. ⊥) IsOfReading)

-- a fault of the check is that of the run
whole_fault : (certificate : Option (List ℕ)) (e : CheckFault) (r : Result Verdict RunFault) (f : RunFault)
    → r ≡ Err f → f ≡ of_check e → WholeChecked certificate (Err e) → IsWhole certificate r
whole_fault None e r f is same whole = tt
whole_fault (Some text) e r f is same whole = λ long. rw is (subst IsUnread (sym same) (check_unread e (whole long)))

-- where there is a verdict, the certificate isn't too long
whole_judged : (certificate : Option (List ℕ)) (verdict : Verdict) (r : Result Verdict RunFault)
    → WholeChecked certificate (Ok verdict) → IsWhole certificate r
whole_judged None verdict r whole = tt
whole_judged (Some text) verdict r whole = λ long. absurd (whole long)

-- what wasn't touched gave nothing
gives_none : (most : ℕ) (known : Option (List ℕ)) → GivesAtMost most known known
gives_none most known = ([], omega arith, Consumes-nil known)

-- a failed read of the check is one of the run
read_failed : (e : CheckFault) → of_check e ≡ faults.ReadFailed → e ≡ check.ReadFailed
read_failed (check.Scan f) is = absurd (cc)
read_failed (check.Table f) is = absurd (cc)
read_failed (check.Build f) is = absurd (cc)
read_failed check.ReadFailed is = refl
read_failed check.TooLong is = absurd (cc)
read_failed check.OutOfMemory is = absurd (cc)

-- ---- the run of a check

-- where no write failed, the writer is as it was
line_kept : (e : RunFault) (structure table : Option (List ℕ)) (rule : Rule) (certificate held : Option (List ℕ))
    → (e ≡ faults.WriteFailed → ⊥) → LeavesLine e structure table rule certificate (stream held held)
line_kept faults.WriteFailed structure table rule certificate held other = absurd (other refl)
line_kept faults.OutOfMemory structure table rule certificate held other = Keeps-refl held
line_kept faults.ReadFailed structure table rule certificate held other = Keeps-refl held
line_kept (faults.TooLong i) structure table rule certificate held other = Keeps-refl held
line_kept (faults.Scan f) structure table rule certificate held other = Keeps-refl held
line_kept (faults.Table f) structure table rule certificate held other = Keeps-refl held
line_kept (faults.Build f) structure table rule certificate held other = Keeps-refl held
line_kept (faults.Plan f) structure table rule certificate held other = Keeps-refl held
line_kept (faults.Unlightable x y z) structure table rule certificate held other = Keeps-refl held
line_kept faults.NoThread structure table rule certificate held other = Keeps-refl held

-- no fault of a check is a failed write
check_unwritten : (e : CheckFault) → of_check e ≡ faults.WriteFailed → ⊥
check_unwritten (check.Scan f) is = cc
check_unwritten (check.Table f) is = cc
check_unwritten (check.Build f) is = cc
check_unwritten check.ReadFailed is = cc
check_unwritten check.TooLong is = cc
check_unwritten check.OutOfMemory is = cc

-- the verdict of the bytes that were read, as that of those that the readers had
judges : (structure : Option (List ℕ)) (bytes : List ℕ) (table : Option (List ℕ)) (rule : Rule)
    (certificate : Option (List ℕ)) (verdict : Verdict) → IfSome structure (λ b. bytes ≡ b)
    → IfSome certificate (λ text. IsJudged bytes table rule text verdict)
    → Judges structure table rule certificate verdict
judges None bytes table rule certificate verdict same found = tt
judges (Some b) bytes table rule certificate verdict same found =
    subst (λ (x : List ℕ). IfSome certificate (λ text. IsJudged x table rule text verdict)) same found

-- an answer but a verdict, unless a read failed, the certificate is too long or memory ran out
abbrev Unsaid : RunFault → RunFault → Type 0
Unsaid e due = (e ≡ due) ⊎ (e ≡ faults.ReadFailed) ⊎ (e ≡ faults.TooLong ProofInput) ⊎ (e ≡ faults.OutOfMemory)

module _ (structure rest table : Option (List ℕ)) (rule : Rule) (certificate : Option (List ℕ)) where
  -- a run whose structure wasn't read
  pub run_unread : (e : RunFault) (held : Option (List ℕ)) → IsNotRead e → IsTooLong structure e
      → (e ≡ faults.ReadFailed → GivesAtMost structure_limit structure rest)
      → IsRunOfCheck (inputs (stream structure rest) table rule) (stream certificate certificate) (Err e)
      (stream held held)
  run_unread e held not_read long before = record {
    done = tt;
    only = excused (Err e) e structure table rule certificate refl (reading_excuse e StructureInput not_read);
    fewest = tt;
    whole = whole_unread certificate (Err e) e refl (reading_unread e StructureInput not_read);
    left = line_kept e structure table rule certificate held (unwritten e not_read);
    fault = λ of. inl (long_input (λ bytes f. IsFaultOfBytes bytes table f) structure e not_read long of);
    refused = long_refused (λ bytes f. IsFaultOfBytes bytes table f) (Unsaid e) structure e not_read long
        (λ due same. inl same) (λ failed due. inr (inl failed)) (λ none due. inr (inr (inr none)));
    before = λ failed. (before failed, gives_none proof_limit certificate);
  }

  module _ (unread : Option (List ℕ)) (bytes : List ℕ) (same : IfSome structure (λ b. bytes ≡ b)) where
    -- one whose check ends with a fault
    pub run_faulted : (e : CheckFault) (held : Option (List ℕ)) → length bytes ≤ structure_limit
        → GivesAtMost structure_limit structure rest
        → IsReadCheck bytes table rule certificate unread proof_limit (Err e)
        → IsRunOfCheck (inputs (stream structure rest) table rule) (stream certificate unread)
        (Err (of_check e)) (stream held held)
    run_faulted e held within ended checked = record {
      done = tt;
      only = said (Err e) (Err (of_check e)) structure bytes table rule certificate same checked.only
          (said_err e (of_check e) (Err (of_check e)) refl refl);
      fewest = tt;
      whole = whole_fault certificate e (Err (of_check e)) (of_check e) refl refl checked.whole;
      left = line_kept (of_check e) structure table rule certificate held (check_unwritten e);
      fault = no_verdict e structure bytes table certificate same within checked.fault checked.too_long;
      refused = input_refused (λ b f. IsFaultOfBytes b table f) structure bytes (Unsaid (of_check e)) same within
          (λ due of. unsaid bytes table e checked.refused due of);
      before = λ failed. (ended, checked.before (read_failed e failed));
    }

    module _ (verdict : Verdict) (within : length bytes ≤ structure_limit)
        (checked : IsReadCheck bytes table rule certificate unread proof_limit (Ok verdict)) where
      -- one that has a verdict, and no memory for its line
      pub run_unsaid : (held : Option (List ℕ))
          → IsRunOfCheck (inputs (stream structure rest) table rule) (stream certificate unread)
          (Err faults.OutOfMemory) (stream held held)
      run_unsaid held = record {
        done = tt;
        only = excused (Err faults.OutOfMemory) faults.OutOfMemory structure table rule certificate refl
            (inr (inr (inl refl)));
        fewest = tt;
        whole = whole_judged certificate verdict (Err faults.OutOfMemory) checked.whole;
        left = Keeps-refl held;
        fault = λ of. absurd (of.2 refl);
        refused = input_refused (λ b f. IsFaultOfBytes b table f) structure bytes (Unsaid faults.OutOfMemory) same
            within (λ due of. inr (inr (inr refl)));
        before = λ failed. absurd (cc);
      }

      -- one whose line wasn't written whole
      pub run_unwritten : (e : RunFault) (writer : Stream) → e ≡ faults.WriteFailed
          → TakesFront writer (verdict_line verdict)
          → IsRunOfCheck (inputs (stream structure rest) table rule) (stream certificate unread) (Err e) writer
      run_unwritten e writer is front = record {
        done = tt;
        only = excused (Err e) e structure table rule certificate refl (inr (inl is));
        fewest = tt;
        whole = whole_judged certificate verdict (Err e) checked.whole;
        left = subst (λ (f : RunFault). LeavesLine f structure table rule certificate writer) (sym is)
            (verdict, judges structure bytes table rule certificate verdict same checked.found, front);
        fault = λ of. absurd (of.1 is);
        refused = input_refused (λ b f. IsFaultOfBytes b table f) structure bytes (Unsaid e) same within
            (λ due of. absurd (none_due bytes table checked.refused due of));
        before = λ failed. absurd
            (let both : faults.WriteFailed ≡ faults.ReadFailed = sym is ∙ failed in cc);
      }

      -- one whose line was
      pub run_ended : (writer : Stream) → IsRule rule → Takes writer (verdict_line verdict)
          → IsRunOfCheck (inputs (stream structure rest) table rule) (stream certificate unread) (Ok verdict) writer
      run_ended writer rules written = record {
        done = record {
          judges = judges structure bytes table rule certificate verdict same checked.found;
          written = written;
        };
        only = said (Ok verdict) (Ok verdict) structure bytes table rule certificate same checked.only (λ v is. is);
        fewest = trusted structure bytes table rule certificate verdict rules same checked.found;
        whole = whole_judged certificate verdict (Ok verdict) checked.whole;
        left = tt;
        fault = tt;
        refused = input_refused (λ b f. IsFaultOfBytes b table f) structure bytes (λ due. ⊥) same within
            (λ due of. none_due bytes table checked.refused due of);
        before = tt;
      }
