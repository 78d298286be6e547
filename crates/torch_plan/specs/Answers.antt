-- What a run of the program reads, its exit status and what it writes. This is this project's own.
use Rattle.std.specs.Prelude.{◌≡◌, ◌≢◌, ◌<◌, ◌⊎◌, ℕ, List, length, Option, Some, None, Result, Ok, Err, OnOk, IfOk}
use Rattle.std.specs.Prelude.{IfErr, IfSome, IsTrue, bytes_eq, codes, option_copied, option_map, if◌then◌else◌}
use Rattle.cave_model.specs.Rule.{Rule}
use Rattle.cave_model.specs.RuleOf.{rule_of}
use Rattle.proof_check.specs.declared.verdict.Verdict.{Verdict}
use Rattle.cave_runs.specs.CheckRuns.{IsNoVerdict, LeavesLine, WritesVerdict}
use Rattle.cave_runs.specs.Limits.{plan_limit, table_limit}
use Rattle.cave_runs.specs.PlanRuns.{BeginsPlan, IsNoPlanOfInput, Plans}
use Rattle.cave_runs.specs.Runs.{BeginsDark, IsFaultOfInput, WritesDark}
use Rattle.cave_runs.specs.LevelsRuns.{IsFaultOfLevels, IsLevelsTextOf}
use Rattle.cave_runs.specs.RowsRuns.{IsFaultOfRows, IsRowsTextOf}
use Rattle.cave_runs.specs.Streams.{IsKept, Stream, outputs, stream}
use Rattle.cave_runs.specs.TextRuns.{BeginsText, IsOfBytes, IsOfInput, WritesText}
use Rattle.cave_runs.specs.declared.fault.Input.TheVariants.{PlanInput, TableInput}
use Rattle.cave_runs.specs.declared.fault.RunFault.{RunFault}
use Rattle.cave_runs.specs.declared.fault.RunFault.TheVariants as faults
use Rattle.cave_runs.specs.declared.plan.Outcome.{Outcome}
use Rattle.command_words.specs.Requests.{IsAsked}
use Rattle.search_traits.specs.declared.planner.Allowance.{Allowance}
use Rattle.torch_plan.specs.Given.{given}
use Rattle.run_system.specs.Sources.{AreUnread, IsUnread, LacksNamed, LacksStructure, MayOverwrite, MayStandApart}
use Rattle.run_system.specs.Sources.{Sources, made_in}
use Rattle.run_system.specs.Status.{end_status, judged, status}
use Rattle.command_words.specs.Mistakes.{AreWellFormed}
use Rattle.torch_plan.specs.Usage.{IsExplained}
use Rattle.command_words.specs.declared.request.Request.{Request}
use Rattle.command_words.specs.declared.request.Request.TheVariants.{Dark, Plan, Check, Levels, Rows}

-- what is known of a structure: `-` is standard input
abbrev pub structure_in : Sources → List ℕ → Option (List ℕ)
structure_in sources file = if bytes_eq file (codes "-") then sources.input else sources.files file

-- what is known of the user's table or a plan's text, where one is named
abbrev pub named_in : Sources → Option (List ℕ) → Option (Option (List ℕ))
named_in sources None = Some None
named_in sources (Some path) = option_map Some (sources.files path)

-- this holds of the structure and the table, where both are known
abbrev pub Known : Sources → List ℕ → Option (List ℕ) → (List ℕ → Option (List ℕ) → Type 0) → Type 0
Known sources file table what =
    IfSome (named_in sources table) (λ rows. IfSome (structure_in sources file) (λ bytes. what bytes rows))

-- a file is named, and as far as its bytes are known they are more than that
abbrev pub IsLong : ℕ → Sources → Option (List ℕ) → Type 0
IsLong limit sources None = ⊥
IsLong limit sources (Some path) = IfSome (sources.files path) (λ bytes. limit < length bytes)

-- the fault is that of too long a table
abbrev pub IsOfTable : Sources → Option (List ℕ) → RunFault → Type 0
IsOfTable sources table fault = (fault ≡ faults.TooLong TableInput) × IsLong table_limit sources table

-- the fault is that of too long a plan
abbrev pub IsOfPlan : Sources → Option (List ℕ) → RunFault → Type 0
IsOfPlan sources plan fault = (fault ≡ faults.TooLong PlanInput) × IsLong plan_limit sources plan

-- a fault but of writing leaves the output as it was
abbrev pub LeavesOutput : {X : Type 0} → Result X RunFault → Stream → Type 0
LeavesOutput result writer = IfErr result (λ fault. fault ≢ faults.WriteFailed → IsKept writer)

-- a fault but of writing and of memory leaves a file as it was made, if it was
abbrev pub LeavesMade : {X : Type 0} → Result X RunFault → Stream → Type 0
LeavesMade result proof = IfErr result (λ fault. fault ≢ faults.WriteFailed → fault ≢ faults.OutOfMemory
    → (proof.after ≡ None) ⊎ IsKept proof)

-- ---- dark cells

-- that of a text alone: 0, or that of the fault
abbrev pub text_status : Result (Unit {0}) RunFault → ℕ
text_status (Ok done) = 0
text_status (Err fault) = status fault

-- the dark cells were written, or the fault is that of a long table or the structure's
pub record AnswersDark (sources : Sources) (file : List ℕ) (table : Option (List ℕ)) (rule : Rule) (writer : Stream)
    (result : Result (Unit {0}) RunFault) : Type 0 where
  pub done : OnOk result (Known sources file table (λ bytes rows. WritesDark bytes rows rule writer))
  pub left : LeavesOutput result writer
  pub begun : IfErr result (λ fault. fault ≡ faults.WriteFailed → Known sources file table (λ bytes rows.
      BeginsDark bytes rows rule writer))
  pub fault : IfErr result (λ fault. IsOfInput fault → IsOfTable sources table fault
      ⊎ Known sources file table (λ bytes rows. IsFaultOfInput bytes rows fault))
  pub lacking : LacksStructure sources file ⊎ LacksNamed sources table → IsUnread result

-- ---- levels

-- this holds of the structure, the table and the plan, where all are known
abbrev pub AllKnown : Sources → List ℕ → Option (List ℕ) → Option (List ℕ)
    → (List ℕ → Option (List ℕ) → Option (List ℕ) → Type 0) → Type 0
AllKnown sources file plan table what =
    IfSome (named_in sources plan) (λ text. Known sources file table (λ bytes rows. what bytes rows text))

-- the levels were written, or the fault is that of a long table, a long plan, the structure's or the plan's
pub record AnswersLevels (sources : Sources) (file : List ℕ) (plan table : Option (List ℕ)) (rule : Rule)
    (writer : Stream) (result : Result (Unit {0}) RunFault) : Type 0 where
  pub done : OnOk result (AllKnown sources file plan table (λ bytes rows text.
      WritesText (IsLevelsTextOf bytes rows rule text) writer))
  pub left : LeavesOutput result writer
  pub begun : IfErr result (λ fault. fault ≡ faults.WriteFailed → AllKnown sources file plan table
      (λ bytes rows text. BeginsText (IsLevelsTextOf bytes rows rule text) writer))
  pub fault : IfErr result (λ fault. IsOfInput fault → IsOfTable sources table fault ⊎ IsOfPlan sources plan fault
      ⊎ AllKnown sources file plan table (λ bytes rows text.
      IsOfBytes (λ b e. IsFaultOfLevels b rows rule text e) bytes fault))
  pub lacking : LacksStructure sources file ⊎ LacksNamed sources table ⊎ LacksNamed sources plan → AreUnread result

-- ---- rows

-- the rows were written, or the fault is that of a long table, the structure's or the table's
pub record AnswersRows (sources : Sources) (file : List ℕ) (table : Option (List ℕ)) (writer : Stream)
    (result : Result (Unit {0}) RunFault) : Type 0 where
  pub done : OnOk result (Known sources file table (λ bytes rows. WritesText (IsRowsTextOf bytes rows) writer))
  pub left : LeavesOutput result writer
  pub begun : IfErr result (λ fault. fault ≡ faults.WriteFailed → Known sources file table (λ bytes rows.
      BeginsText (IsRowsTextOf bytes rows) writer))
  pub fault : IfErr result (λ fault. IsOfInput fault → IsOfTable sources table fault
      ⊎ Known sources file table (λ bytes rows. IsOfBytes (λ b e. IsFaultOfRows b rows e) bytes fault))
  pub lacking : LacksStructure sources file ⊎ LacksNamed sources table → IsUnread result

-- ---- plans

-- that of the end, or of the fault
abbrev pub plan_status : Result Outcome RunFault → ℕ
plan_status (Ok outcome) = end_status outcome
plan_status (Err fault) = status fault

-- the plan was written, and its proof to the file that was made by the name `out`, where one is named; or the fault is
-- that of a long table or the structure's. That file holds `kept` then
pub record AnswersPlan (sources : Sources) (file : List ℕ) (table out : Option (List ℕ)) (rule : Rule)
    (allowance : Allowance) (writer : Stream) (kept : Option (List ℕ)) (result : Result Outcome RunFault) : Type 0 where
  pub done : IfOk result (λ outcome. Known sources file table (λ bytes rows.
      Plans bytes rows rule allowance outcome (outputs writer (stream (made_in sources out) kept))))
  pub left : LeavesOutput result writer
  pub begun : IfErr result (λ fault. fault ≡ faults.WriteFailed → IsKept writer ⊎ Known sources file table
      (λ bytes rows. BeginsPlan bytes rows rule allowance (outputs writer (stream (made_in sources out) kept))))
  pub fault : IfErr result (λ fault. IsOfInput fault → fault ≢ faults.NoThread → IsOfTable sources table fault
      ⊎ Known sources file table (λ bytes rows. IsNoPlanOfInput bytes rows rule fault))
  pub threads : IfErr result (λ fault. fault ≡ faults.NoThread → 1 < allowance.workers)
  pub untouched : LeavesMade result (stream (made_in sources out) kept)
  pub lacking : LacksStructure sources file ⊎ LacksNamed sources table → IsUnread result

-- ---- verdicts

-- that of the verdict, or of the fault
abbrev pub check_status : Result Verdict RunFault → ℕ
check_status (Ok verdict) = judged verdict
check_status (Err fault) = status fault

-- the verdict was written, or the fault is that of a long table, of the structure or of the certificate's length
pub record AnswersCheck (sources : Sources) (file proof : List ℕ) (table : Option (List ℕ)) (rule : Rule)
    (writer : Stream) (result : Result Verdict RunFault) : Type 0 where
  pub done : IfOk result (λ verdict. IfSome (named_in sources table) (λ rows.
      WritesVerdict (structure_in sources file) rows rule (sources.files proof) writer verdict))
  pub left : LeavesOutput result writer
  pub begun : IfErr result (λ fault. fault ≡ faults.WriteFailed → IfSome (named_in sources table) (λ rows.
      LeavesLine fault (structure_in sources file) rows rule (sources.files proof) writer))
  pub fault : IfErr result (λ fault. IsOfInput fault → IsOfTable sources table fault
      ⊎ IfSome (named_in sources table) (λ rows.
      IsNoVerdict (structure_in sources file) rows (sources.files proof) fault))
  pub lacking : LacksStructure sources file ⊎ LacksNamed sources table ⊎ IsTrue (sources.missing proof)
      → IsUnread result

-- ---- requests

-- a run of dark cells that ends with this status
abbrev pub RunsDark : Sources → List ℕ → Option (List ℕ) → Rule → Stream → ℕ → Type 0
RunsDark sources file table rule writer code = (result : Result (Unit {0}) RunFault)
    × (code ≡ text_status result) × AnswersDark sources file table rule writer result

-- a run of a plan that ends with this status
abbrev pub RunsPlan : Sources → List ℕ → Option (List ℕ) → Option (List ℕ) → Rule → Allowance → Stream → Option (List ℕ)
    → ℕ → Type 0
RunsPlan sources file table out rule allowance writer kept code = (result : Result Outcome RunFault)
    × (code ≡ plan_status result) × AnswersPlan sources file table out rule allowance writer kept result

-- a run of a check that ends with this status
abbrev pub RunsCheck : Sources → List ℕ → List ℕ → Option (List ℕ) → Rule → Stream → ℕ → Type 0
RunsCheck sources file proof table rule writer code = (result : Result Verdict RunFault)
    × (code ≡ check_status result) × AnswersCheck sources file proof table rule writer result

-- a run of levels that ends with this status
abbrev pub RunsLevels : Sources → List ℕ → Option (List ℕ) → Option (List ℕ) → Rule → Stream → ℕ → Type 0
RunsLevels sources file plan table rule writer code = (result : Result (Unit {0}) RunFault)
    × (code ≡ text_status result) × AnswersLevels sources file plan table rule writer result

-- a run of rows that ends with this status
abbrev pub RunsRows : Sources → List ℕ → Option (List ℕ) → Stream → ℕ → Type 0
RunsRows sources file table writer code = (result : Result (Unit {0}) RunFault)
    × (code ≡ text_status result) × AnswersRows sources file table writer result

-- what was asked for was done: the run of these files, by this table and rule, ended with this status, and left `kept`
-- in the file for the proof; or that file may be one that is read, or the output, and nothing was done
abbrev pub Does : Sources → Request → Stream → Option (List ℕ) → ℕ → Type 0
Does sources (Dark file table rule progress) writer kept code =
    RunsDark sources file.now (option_copied table) (rule_of rule) writer code
Does sources (Plan file table opts proof progress) writer kept code =
    (MayOverwrite sources (option_copied proof) file.now (option_copied table) × (code ≡ 2) × IsKept writer)
    ⊎ (MayStandApart sources (option_copied proof) file.now (option_copied table)
    × RunsPlan sources file.now (option_copied table) (option_copied proof) (rule_of opts.rule)
    (given opts.workers.number opts.turns) writer kept code)
Does sources (Check file proof table rule) writer kept code =
    RunsCheck sources file.now proof.now (option_copied table) (rule_of rule) writer code
Does sources (Levels file plan table rule progress) writer kept code =
    RunsLevels sources file.now (option_copied plan) (option_copied table) (rule_of rule) writer code
Does sources (Rows file table) writer kept code = RunsRows sources file.now (option_copied table) writer code

-- the words are well formed, and what they ask for was done; or nothing was, and they were explained
abbrev pub Answers : Sources → List (List ℕ) → Stream → Option (List ℕ) → ℕ → Type 0
Answers sources words writer kept code =
    (AreWellFormed words × (request : Request) × IsAsked words request × Does sources request writer kept code)
    ⊎ (IsKept writer × IsExplained words code)
