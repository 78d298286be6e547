-- The command line over files in memory, words to bytes. This is this project's own.
use Rattle.std.specs.Prelude.{◌≡◌, ◌⊎◌, ℕ, Bool, true, false, List, [], ◌∷◌, Option, Some, None}
use Rattle.std.specs.Prelude.{bytes_eq, option_copied, if◌then◌else◌}
use Rattle.cave_model.specs.RuleOf.{rule_of}
use Rattle.cave_runs.specs.CheckRuns.{WritesVerdict}
use Rattle.cave_runs.specs.PlanRuns.{Plans}
use Rattle.cave_runs.specs.LevelsRuns.{IsLevelsTextOf}
use Rattle.cave_runs.specs.RowsRuns.{IsRowsTextOf}
use Rattle.cave_runs.specs.Runs.{WritesDark}
use Rattle.cave_runs.specs.Streams.{outputs, stream}
use Rattle.cave_runs.specs.TextRuns.{WritesText}
use Rattle.cave_runs.specs.declared.plan.Outcome.{Outcome}
use Rattle.command_words.specs.Mistakes.{AreWellFormed}
use Rattle.command_words.specs.Requests.{IsAsked}
use Rattle.command_words.specs.declared.request.Request.{Request}
use Rattle.command_words.specs.declared.request.Request.TheVariants.{Dark, Plan, Check, Levels, Rows}
use Rattle.proof_check.specs.declared.verdict.Verdict.{Verdict}
use Rattle.torch_plan.specs.Answers.{Answers, structure_in, named_in}
use Rattle.torch_plan.specs.Given.{given}
use Rattle.run_system.specs.Sources.{Sources, made_in}
use Rattle.run_system.specs.Status.{end_status, judged}
use Rattle.torch_plan.specs.Usage.{IsExplained}
use Rattle.torch_plan.specs.declared.memory.NamedFile.{NamedFile}

-- the bytes of the file of this name: of two with one name the first counts
abbrev pub bytes_at : List NamedFile → List ℕ → Option (List ℕ)
bytes_at [] name = None
bytes_at (file ∷ rest) name = if bytes_eq file.name.now name then Some file.bytes.now else bytes_at rest name

-- there are none
abbrev pub are_none : Option (List ℕ) → Bool
are_none None = true
are_none (Some bytes) = false

-- all is known of files in memory and of standard input: any other file is missing, one that is made is empty, and two
-- names are two files
abbrev pub sources_of : List NamedFile → List ℕ → Sources
sources_of files input = record {
  files = bytes_at files;
  missing = λ name. are_none (bytes_at files name);
  input = Some input;
  made = λ name. Some [];
  same = λ one other. Some (bytes_eq one other);
  over = λ name. Some false;
}

-- the structure is there, and the table, where one is named: these are their bytes
pub record Reads (sources : Sources) (file : List ℕ) (table : Option (List ℕ)) (bytes : List ℕ)
    (rows : Option (List ℕ)) : Type 0 where
  pub structure : structure_in sources file ≡ Some bytes
  pub user : named_in sources table ≡ Some rows

-- what a run of the request writes that ends with this status, of the bytes that it reads: the text of the dark cells;
-- that of the plan, and of its certificate; the line of the verdict; the text of the levels; or that of the rows
abbrev pub Writes : Sources → Request → ℕ → List ℕ → Option (List ℕ) → List ℕ → Option (List ℕ) → Type 0
Writes sources (Dark file table rule progress) code output proof bytes rows =
    Reads sources file.now (option_copied table) bytes rows × (code ≡ 0)
    × WritesDark bytes rows (rule_of rule) (stream (Some []) (Some output))
Writes sources (Plan file table opts out progress) code output proof bytes rows =
    Reads sources file.now (option_copied table) bytes rows × (outcome : Outcome) × (code ≡ end_status outcome)
    × Plans bytes rows (rule_of opts.rule) (given opts.workers.number opts.turns) outcome
    (outputs (stream (Some []) (Some output)) (stream (made_in sources (option_copied out)) proof))
Writes sources (Check file certificate table rule) code output proof bytes rows =
    Reads sources file.now (option_copied table) bytes rows × (text : List ℕ)
    × (sources.files certificate.now ≡ Some text) × (verdict : Verdict) × (code ≡ judged verdict)
    × WritesVerdict (Some bytes) rows (rule_of rule) (Some text) (stream (Some []) (Some output)) verdict
Writes sources (Levels file plan table rule progress) code output proof bytes rows =
    Reads sources file.now (option_copied table) bytes rows × (text : Option (List ℕ))
    × (named_in sources (option_copied plan) ≡ Some text) × (code ≡ 0)
    × WritesText (IsLevelsTextOf bytes rows (rule_of rule) text) (stream (Some []) (Some output))
Writes sources (Rows file table) code output proof bytes rows =
    Reads sources file.now (option_copied table) bytes rows × (code ≡ 0)
    × WritesText (IsRowsTextOf bytes rows) (stream (Some []) (Some output))

-- a status with an answer: done, rejected, or stopped
abbrev pub IsAnswered : ℕ → Type 0
IsAnswered code = (code ≡ 0) ⊎ (code ≡ 4) ⊎ (code ≡ 5)

-- what the words ask for was written, of files that are there; or the words were explained, and nothing was
abbrev pub WritesAnswer : Sources → List (List ℕ) → ℕ → List ℕ → Option (List ℕ) → Type 0
WritesAnswer sources words code output proof =
    (AreWellFormed words × (request : Request) × IsAsked words request × (bytes : List ℕ) × (rows : Option (List ℕ))
    × Writes sources request code output proof bytes rows)
    ⊎ ((output ≡ []) × IsExplained words code)

-- these words over these files and this standard input ended with this status, these bytes of output, and these in the
-- file that was made for a proof, if one was
pub record AnswersInMemory (files : List NamedFile) (input : List ℕ) (words : List (List ℕ)) (code : ℕ)
    (output : List ℕ) (proof : Option (List ℕ)) : Type 0 where
  -- as over any system
  pub answers : Answers (sources_of files input) words (stream (Some []) (Some output)) proof code
  -- with an answer, of bytes that are all known
  pub written : IsAnswered code → WritesAnswer (sources_of files input) words code output proof
