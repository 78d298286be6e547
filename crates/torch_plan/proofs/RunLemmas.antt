-- What a run over files gives, as far as these are known.
use Rattle.std.proofs.Common.{◌≡◌, ◌≢◌, ◌<◌, ◌∙◌, ℕ, Bool, true, false, List, Option, Some, None, Result, Ok, Err}
use Rattle.std.proofs.Common.{sym, ap, subst, ◌⊎◌, inl, inr, true≢false}
use Rattle.std.specs.Prelude.{IfErr, IfOk, IfSome, IsFalse, OnOk, bytes_eq, codes, if◌then◌else◌}
use Rattle.cave_model.specs.Rule.{Rule}
use Rattle.cave_runs.specs.PlanRuns.{BeginsPlan, IsNoPlanOfInput, Plans}
use Rattle.cave_runs.specs.Runs.{BeginsDark, IsFaultOfInput, WritesDark}
use Rattle.cave_runs.specs.LevelsRuns.{IsFaultOfLevels, IsLevelsTextOf}
use Rattle.cave_runs.specs.RowsRuns.{IsFaultOfRows, IsRowsTextOf}
use Rattle.cave_runs.specs.Streams.{IsKept, Stream, outputs, stream}
use Rattle.cave_runs.specs.TextRuns.{BeginsText, IsOfBytes, IsOfInput, WritesText}
use Rattle.cave_runs.specs.declared.fault.RunFault.{RunFault}
use Rattle.cave_runs.specs.declared.fault.RunFault.TheVariants as faults
use Rattle.cave_runs.specs.declared.plan.Outcome.{Outcome}
use Rattle.search_traits.specs.declared.planner.Allowance.{Allowance}
use Rattle.torch_plan.specs.Answers.{AnswersDark, AnswersLevels, AnswersPlan, AnswersRows, Known, LeavesMade}
use Rattle.torch_plan.specs.Answers.{LeavesOutput, named_in, structure_in}
use Rattle.run_system.specs.Sources.{Sources, LacksStructure, LacksNamed, made_in}

-- standard input, where that is named
pub standard_in : (sources : Sources) (file : List ℕ) → bytes_eq file (codes "-") ≡ true
    → structure_in sources file ≡ sources.input
standard_in sources file is = ap (λ (b : Bool). if b then sources.input else sources.files file) is

-- and else a file
pub file_in : (sources : Sources) (file : List ℕ) → bytes_eq file (codes "-") ≡ false
    → structure_in sources file ≡ sources.files file
file_in sources file is = ap (λ (b : Bool). if b then sources.input else sources.files file) is

-- the table that was read is the one that is known
pub told_as : (rows : Option (Option (List ℕ))) (read other : Option (List ℕ)) → read ≡ other
    → IfSome rows (λ r. other ≡ r) → IfSome rows (λ r. read ≡ r)
told_as None read other same told = tt
told_as (Some r) read other same told = same ∙ told

-- what holds of what was read holds of what is known
known : (structure remaining : Option (List ℕ)) (rows : Option (Option (List ℕ))) (read : Option (List ℕ))
    (what : List ℕ → Option (List ℕ) → Type 0) → remaining ≡ structure → IfSome rows (λ r. read ≡ r)
    → IfSome remaining (λ bytes. what bytes read) → IfSome rows (λ r. IfSome structure (λ bytes. what bytes r))
known structure remaining None read what same told h = tt
known structure remaining (Some r) read what same told h =
    subst (λ (x : Option (List ℕ)). IfSome structure (λ bytes. what bytes x)) told
    (subst (λ (s : Option (List ℕ)). IfSome s (λ bytes. what bytes read)) same h)

-- nothing is missing
none_lacks : (sources : Sources) (file : List ℕ) (plan table : Option (List ℕ))
    → ¬ (LacksStructure sources file ⊎ LacksNamed sources table) → ¬ LacksNamed sources plan
    → ¬ (LacksStructure sources file ⊎ LacksNamed sources table ⊎ LacksNamed sources plan)
none_lacks sources file plan table there also (inl lacks) = there (inl lacks)
none_lacks sources file plan table there also (inr (inl lacks)) = there (inr lacks)
none_lacks sources file plan table there also (inr (inr lacks)) = also lacks

-- a run of dark cells over what is known
pub dark_answered : (sources : Sources) (file : List ℕ) (table : Option (List ℕ)) (rule : Rule)
    (writer : Stream) (remaining read : Option (List ℕ)) (result : Result (Unit {0}) RunFault)
    → remaining ≡ structure_in sources file → IfSome (named_in sources table) (λ r. read ≡ r)
    → OnOk result (IfSome remaining (λ bytes. WritesDark bytes read rule writer)) → LeavesOutput result writer
    → IfErr result (λ e. e ≡ faults.WriteFailed → IfSome remaining (λ bytes. BeginsDark bytes read rule writer))
    → IfErr result (λ e. IsOfInput e → IfSome remaining (λ bytes. IsFaultOfInput bytes read e))
    → ¬ (LacksStructure sources file ⊎ LacksNamed sources table)
    → AnswersDark sources file table rule writer result
dark_answered sources file table rule writer remaining read (Ok u) same told done left begun fault there = record {
  done = known (structure_in sources file) remaining (named_in sources table) read
      (λ bytes rows. WritesDark bytes rows rule writer) same told done;
  left = left;
  begun = tt;
  fault = tt;
  lacking = λ lacks. absurd (there lacks);
}
dark_answered sources file table rule writer remaining read (Err e) same told done left begun fault there = record {
  done = tt;
  left = left;
  begun = λ failed. known (structure_in sources file) remaining (named_in sources table) read
      (λ bytes rows. BeginsDark bytes rows rule writer) same told (begun failed);
  fault = λ of. inr (known (structure_in sources file) remaining (named_in sources table) read
      (λ bytes rows. IsFaultOfInput bytes rows e) same told (fault of));
  lacking = λ lacks. absurd (there lacks);
}

-- a run of rows over what is known
pub rows_answered : (sources : Sources) (file : List ℕ) (table : Option (List ℕ))
    (writer : Stream) (remaining read : Option (List ℕ)) (result : Result (Unit {0}) RunFault)
    → remaining ≡ structure_in sources file → IfSome (named_in sources table) (λ r. read ≡ r)
    → OnOk result (IfSome remaining (λ bytes. WritesText (IsRowsTextOf bytes read) writer))
    → LeavesOutput result writer
    → IfErr result (λ e. e ≡ faults.WriteFailed
    → IfSome remaining (λ bytes. BeginsText (IsRowsTextOf bytes read) writer))
    → IfErr result (λ e. IsOfInput e
    → IfSome remaining (λ bytes. IsOfBytes (λ b f. IsFaultOfRows b read f) bytes e))
    → ¬ (LacksStructure sources file ⊎ LacksNamed sources table)
    → AnswersRows sources file table writer result
rows_answered sources file table writer remaining read (Ok u) same told done left begun fault there = record {
  done = known (structure_in sources file) remaining (named_in sources table) read
      (λ bytes rows. WritesText (IsRowsTextOf bytes rows) writer) same told done;
  left = left;
  begun = tt;
  fault = tt;
  lacking = λ lacks. absurd (there lacks);
}
rows_answered sources file table writer remaining read (Err e) same told done left begun fault there = record {
  done = tt;
  left = left;
  begun = λ failed. known (structure_in sources file) remaining (named_in sources table) read
      (λ bytes rows. BeginsText (IsRowsTextOf bytes rows) writer) same told (begun failed);
  fault = λ of. inr (known (structure_in sources file) remaining (named_in sources table) read
      (λ bytes rows. IsOfBytes (λ b f. IsFaultOfRows b rows f) bytes e) same told (fault of));
  lacking = λ lacks. absurd (there lacks);
}

-- a run of a plan over what is known
pub plan_answered : (sources : Sources) (file : List ℕ) (table out : Option (List ℕ)) (rule : Rule)
    (allowance : Allowance) (writer : Stream) (kept remaining read : Option (List ℕ)) (result : Result Outcome RunFault)
    → remaining ≡ structure_in sources file → IfSome (named_in sources table) (λ r. read ≡ r)
    → IfOk result (λ outcome. IfSome remaining (λ bytes.
    Plans bytes read rule allowance outcome (outputs writer (stream (made_in sources out) kept))))
    → LeavesOutput result writer
    → IfErr result (λ e. e ≡ faults.WriteFailed → IsKept writer
    ⊎ IfSome remaining (λ bytes. BeginsPlan bytes read rule allowance
    (outputs writer (stream (made_in sources out) kept))))
    → IfErr result (λ e. IsOfInput e → e ≢ faults.NoThread
    → IfSome remaining (λ bytes. IsNoPlanOfInput bytes read rule e))
    → IfErr result (λ e. e ≡ faults.NoThread → 1 < allowance.workers)
    → LeavesMade result (stream (made_in sources out) kept)
    → ¬ (LacksStructure sources file ⊎ LacksNamed sources table)
    → AnswersPlan sources file table out rule allowance writer kept result
plan_answered sources file table out rule allowance writer kept remaining read (Ok outcome) same told done left begun
    fault threads untouched there = record {
      done = known (structure_in sources file) remaining (named_in sources table) read
          (λ bytes rows. Plans bytes rows rule allowance outcome (outputs writer (stream (made_in sources out) kept)))
          same told done;
      left = left;
      begun = tt;
      fault = tt;
      threads = tt;
      untouched = untouched;
      lacking = λ lacks. absurd (there lacks);
    }
plan_answered sources file table out rule allowance writer kept remaining read (Err e) same told done left begun fault
    threads untouched there = record {
      done = tt;
      left = left;
      begun = λ failed. (elim (begun failed) [
        | inl keeps ↦ inl keeps
        | inr some ↦ inr (known (structure_in sources file) remaining (named_in sources table) read
            (λ bytes rows. BeginsPlan bytes rows rule allowance (outputs writer (stream (made_in sources out) kept)))
            same told some)
      ]);
      fault = λ of more. inr (known (structure_in sources file) remaining (named_in sources table) read
          (λ bytes rows. IsNoPlanOfInput bytes rows rule e) same told (fault of more));
      threads = threads;
      untouched = untouched;
      lacking = λ lacks. absurd (there lacks);
    }

-- what holds of the plan that was read holds of what is known
with_plan : (rows : Option (Option (List ℕ))) (read : Option (List ℕ)) (what : Option (List ℕ) → Type 0)
    → IfSome rows (λ r. read ≡ r) → what read → IfSome rows what
with_plan None read what told h = tt
with_plan (Some r) read what told h = subst what told h

-- a run of levels over what is known
pub levels_answered : (sources : Sources) (file : List ℕ) (plan table : Option (List ℕ)) (rule : Rule)
    (writer : Stream) (remaining read text : Option (List ℕ)) (result : Result (Unit {0}) RunFault)
    → remaining ≡ structure_in sources file → IfSome (named_in sources table) (λ r. read ≡ r)
    → IfSome (named_in sources plan) (λ r. text ≡ r)
    → OnOk result (IfSome remaining (λ bytes. WritesText (IsLevelsTextOf bytes read rule text) writer))
    → LeavesOutput result writer
    → IfErr result (λ e. e ≡ faults.WriteFailed
    → IfSome remaining (λ bytes. BeginsText (IsLevelsTextOf bytes read rule text) writer))
    → IfErr result (λ e. IsOfInput e
    → IfSome remaining (λ bytes. IsOfBytes (λ b f. IsFaultOfLevels b read rule text f) bytes e))
    → ¬ (LacksStructure sources file ⊎ LacksNamed sources table) → ¬ LacksNamed sources plan
    → AnswersLevels sources file plan table rule writer result
levels_answered sources file plan table rule writer remaining read text (Ok u) same told said done left begun fault
    there also = record {
      done = with_plan (named_in sources plan) text (λ t. Known sources file table (λ bytes rows.
          WritesText (IsLevelsTextOf bytes rows rule t) writer)) said
          (known (structure_in sources file) remaining (named_in sources table) read
          (λ bytes rows. WritesText (IsLevelsTextOf bytes rows rule text) writer) same told done);
      left = left;
      begun = tt;
      fault = tt;
      lacking = λ lacks. absurd (none_lacks sources file plan table there also lacks);
    }
levels_answered sources file plan table rule writer remaining read text (Err e) same told said done left begun fault
    there also = record {
      done = tt;
      left = left;
      begun = λ failed. with_plan (named_in sources plan) text (λ t. Known sources file table (λ bytes rows.
          BeginsText (IsLevelsTextOf bytes rows rule t) writer)) said
          (known (structure_in sources file) remaining (named_in sources table) read
          (λ bytes rows. BeginsText (IsLevelsTextOf bytes rows rule text) writer) same told (begun failed));
      fault = λ of. inr (inr (with_plan (named_in sources plan) text (λ t. Known sources file table (λ bytes rows.
          IsOfBytes (λ b f. IsFaultOfLevels b rows rule t f) bytes e)) said
          (known (structure_in sources file) remaining (named_in sources table) read
          (λ bytes rows. IsOfBytes (λ b f. IsFaultOfLevels b rows rule text f) bytes e) same told (fault of))));
      lacking = λ lacks. absurd (none_lacks sources file plan table there also lacks);
    }

-- standard input isn't missing
pub there_at_standard : (sources : Sources) (file : List ℕ) (table : Option (List ℕ))
    → bytes_eq file (codes "-") ≡ true → ¬ LacksNamed sources table
    → ¬ (LacksStructure sources file ⊎ LacksNamed sources table)
there_at_standard sources file table is has (inl lacks) = absurd (true≢false (sym is ∙ lacks.0))
there_at_standard sources file table is has (inr lacks) = has lacks

-- nor is a file that was opened
pub there_at_file : (sources : Sources) (file : List ℕ) (table : Option (List ℕ)) → IsFalse (sources.missing file)
    → ¬ LacksNamed sources table → ¬ (LacksStructure sources file ⊎ LacksNamed sources table)
there_at_file sources file table is has (inl lacks) = absurd (true≢false (sym lacks.1 ∙ is))
there_at_file sources file table is has (inr lacks) = has lacks
