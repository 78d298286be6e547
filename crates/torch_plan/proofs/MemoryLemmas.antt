-- What an answer over files in memory says, where all bytes are known.
use Rattle.std.proofs.Common.{◌≡◌, ◌⊎◌, ℕ, Bool, true, false, List, [], Option, Some, None, Ok, Err}
use Rattle.std.proofs.Common.{refl, ap, subst, inl, inr, arith}
use Rattle.std.specs.Prelude.{IfSome, IsFalse, IsTrue, bytes_eq, codes, option_copied, option_map, if◌then◌else◌}
use Rattle.cave_model.specs.RuleOf.{rule_of}
use Rattle.cave_runs.specs.CheckRuns.{WritesVerdict}
use Rattle.cave_runs.specs.PlanRuns.{Plans}
use Rattle.cave_runs.specs.LevelsRuns.{IsLevelsTextOf}
use Rattle.cave_runs.specs.RowsRuns.{IsRowsTextOf}
use Rattle.cave_runs.specs.Runs.{WritesDark}
use Rattle.cave_runs.specs.Streams.{outputs, stream}
use Rattle.cave_runs.specs.TextRuns.{WritesText}
use Rattle.cave_runs.specs.declared.fault.RunFault.{RunFault}
use Rattle.cave_runs.specs.declared.fault.RunFault.TheVariants as faults
use Rattle.command_words.specs.declared.request.Request.{Request}
use Rattle.command_words.specs.declared.request.Request.TheVariants.{Dark, Plan, Check, Levels, Rows}
use Rattle.torch_plan.specs.Answers.{Answers, Does, Known, named_in, structure_in}
use Rattle.torch_plan.specs.Given.{given}
use Rattle.torch_plan.specs.Memory.{AnswersInMemory, IsAnswered, Reads, Writes, are_none, bytes_at}
use Rattle.torch_plan.specs.Memory.{sources_of}
use Rattle.run_system.specs.Sources.{LacksStructure, LacksNamed, Sources, made_in}
use Rattle.run_system.specs.Status.{status}
use Rattle.torch_plan.specs.declared.memory.NamedFile.{NamedFile}

-- a fault has a status without an answer
unanswered : (fault : RunFault) (code : ℕ) → code ≡ status fault → IsAnswered code → ⊥
unanswered faults.ReadFailed code is of = grind arith
unanswered (faults.TooLong input) code is of = grind arith
unanswered faults.WriteFailed code is of = grind arith
unanswered (faults.Scan fault) code is of = grind arith
unanswered (faults.Table fault) code is of = grind arith
unanswered (faults.Build fault) code is of = grind arith
unanswered (faults.Plan fault) code is of = grind arith
unanswered (faults.Unlightable x y z) code is of = grind arith
unanswered faults.NoThread code is of = grind arith
unanswered faults.OutOfMemory code is of = grind arith

-- a mistake in usage has none
no_mistake : (code : ℕ) → code ≡ 2 → IsAnswered code → ⊥
no_mistake code is of = grind arith

-- bytes that aren't none are some
some_of : (found : Option (List ℕ)) → ¬ IsTrue (are_none found) → (bytes : List ℕ) × (found ≡ Some bytes)
some_of None is = absurd (is refl)
some_of (Some bytes) is = (bytes, refl)

-- a structure that isn't missing
structure_of : (is_input : Bool) (input : List ℕ) (found : Option (List ℕ))
    → ¬ (IsFalse is_input × IsTrue (are_none found))
    → (bytes : List ℕ) × ((if is_input then Some input else found) ≡ Some bytes)
structure_of true input found there = (input, refl)
structure_of false input found there = some_of found (λ none. there (refl, none))

-- a table that isn't missing
table_of : (sources : Sources) (files : List NamedFile) (input : List ℕ) (table : Option (List ℕ))
    → ¬ LacksNamed (sources_of files input) table
    → (rows : Option (List ℕ)) × (named_in (sources_of files input) table ≡ Some rows)
table_of sources files input None there = (None, refl)
table_of sources files input (Some path) there = let found = some_of (bytes_at files path) there in
    (Some found.0, ap (option_map Some) found.1)

-- what is read, where nothing is missing
pub reads : (files : List NamedFile) (input file : List ℕ) (table : Option (List ℕ))
    → ¬ (LacksStructure (sources_of files input) file ⊎ LacksNamed (sources_of files input) table)
    → (bytes : List ℕ) × (rows : Option (List ℕ)) × Reads (sources_of files input) file table bytes rows
reads files input file table there =
    let structure = structure_of (bytes_eq file (codes "-")) input (bytes_at files file) (λ lacks. there (inl lacks)) in
    let rows = table_of (sources_of files input) files input table (λ lacks. there (inr lacks)) in
    (structure.0, rows.0, record { structure = structure.1; user = rows.1 })

-- what holds of known bytes holds of these
resolved : (table : Option (Option (List ℕ))) (rows : Option (List ℕ)) (what : Option (List ℕ) → Type 0)
    → table ≡ Some rows → IfSome table what → what rows
resolved table rows what is h = subst (λ (t : Option (Option (List ℕ))). IfSome t what) is h

also : (structure : Option (List ℕ)) (bytes : List ℕ) (what : List ℕ → Type 0)
    → structure ≡ Some bytes → IfSome structure what → what bytes
also structure bytes what is h = subst (λ (s : Option (List ℕ)). IfSome s what) is h

-- what a run wrote that has an answer
wrote : (files : List NamedFile) (input output : List ℕ) (proof : Option (List ℕ)) (code : ℕ) (request : Request)
    → Does (sources_of files input) request (stream (Some []) (Some output)) proof code → IsAnswered code
    → (bytes : List ℕ) × (rows : Option (List ℕ)) × Writes (sources_of files input) request code output proof bytes rows
wrote files input output proof code (Dark file table rule progress) (Ok u, is, run) of =
    let known = sources_of files input in
    let read = reads files input file.now (option_copied table) (λ lacks. run.lacking lacks) in (
      read.0,
      read.1,
      (
        read.2,
        is,
        also (structure_in known file.now) read.0
            (λ bytes. WritesDark bytes read.1 (rule_of rule) (stream (Some []) (Some output))) read.2.structure
            (resolved (named_in known (option_copied table)) read.1 (λ rows. IfSome (structure_in known file.now)
            (λ bytes. WritesDark bytes rows (rule_of rule) (stream (Some []) (Some output)))) read.2.user run.done),
      ),
    )
wrote files input output proof code (Dark file table rule progress) (Err fault, is, run) of =
    absurd (unanswered fault code is of)
wrote files input output proof code (Plan file table opts out progress) (inl (may, is, keeps)) of =
    absurd (no_mistake code is of)
wrote files input output proof code (Plan file table opts out progress) (inr (apart, (Ok outcome, is, run))) of =
    let known = sources_of files input in let made = made_in known (option_copied out) in
    let allowance = given opts.workers.number opts.turns in
    let read = reads files input file.now (option_copied table) (λ lacks. run.lacking lacks) in (
      read.0,
      read.1,
      (
        read.2,
        outcome,
        is,
        also (structure_in known file.now) read.0
            (λ bytes. Plans bytes read.1 (rule_of opts.rule) allowance outcome
            (outputs (stream (Some []) (Some output)) (stream made proof)))
            read.2.structure (resolved (named_in known (option_copied table)) read.1
            (λ rows. IfSome (structure_in known file.now) (λ bytes. Plans bytes rows (rule_of opts.rule) allowance
            outcome (outputs (stream (Some []) (Some output)) (stream made proof)))) read.2.user run.done),
      ),
    )
wrote files input output proof code (Plan file table opts out progress) (inr (apart, (Err fault, is, run))) of =
    absurd (unanswered fault code is of)
wrote files input output proof code (Check file certificate table rule) (Ok verdict, is, run) of =
    let known = sources_of files input in
    let read = reads files input file.now (option_copied table)
    (λ lacks. run.lacking (elim lacks [ inl a ↦ inl a | inr b ↦ inr (inl b) ])) in
    let text = some_of (bytes_at files certificate.now) (λ none. run.lacking (inr (inr none))) in (
      read.0,
      read.1,
      (
        read.2,
        text.0,
        text.1,
        verdict,
        is,
        subst (λ (t : Option (List ℕ)). WritesVerdict (Some read.0) read.1 (rule_of rule) t
            (stream (Some []) (Some output)) verdict) text.1
            (subst (λ (s : Option (List ℕ)). WritesVerdict s read.1 (rule_of rule)
            (bytes_at files certificate.now) (stream (Some []) (Some output)) verdict) read.2.structure
            (resolved (named_in known (option_copied table)) read.1
            (λ rows. WritesVerdict (structure_in known file.now) rows (rule_of rule) (bytes_at files certificate.now)
            (stream (Some []) (Some output)) verdict) read.2.user run.done)),
      ),
    )
wrote files input output proof code (Check file certificate table rule) (Err fault, is, run) of =
    absurd (unanswered fault code is of)
wrote files input output proof code (Levels file plan table rule progress) (Ok u, is, run) of =
    let known = sources_of files input in
    let read = reads files input file.now (option_copied table)
    (λ lacks. run.lacking (elim lacks [ inl a ↦ inl a | inr b ↦ inr (inl b) ])) in
    let text = table_of known files input (option_copied plan) (λ lacks. run.lacking (inr (inr lacks))) in (
      read.0,
      read.1,
      (
        read.2,
        text.0,
        text.1,
        is,
        also (structure_in known file.now) read.0
            (λ bytes. WritesText (IsLevelsTextOf bytes read.1 (rule_of rule) text.0) (stream (Some []) (Some output)))
            read.2.structure (resolved (named_in known (option_copied table)) read.1
            (λ rows. IfSome (structure_in known file.now) (λ bytes.
            WritesText (IsLevelsTextOf bytes rows (rule_of rule) text.0) (stream (Some []) (Some output)))) read.2.user
            (resolved (named_in known (option_copied plan)) text.0 (λ t. Known known file.now (option_copied table)
            (λ bytes rows. WritesText (IsLevelsTextOf bytes rows (rule_of rule) t) (stream (Some []) (Some output))))
            text.1 run.done)),
      ),
    )
wrote files input output proof code (Levels file plan table rule progress) (Err fault, is, run) of =
    absurd (unanswered fault code is of)
wrote files input output proof code (Rows file table) (Ok u, is, run) of =
    let known = sources_of files input in
    let read = reads files input file.now (option_copied table) (λ lacks. run.lacking lacks) in (
      read.0,
      read.1,
      (
        read.2,
        is,
        also (structure_in known file.now) read.0
            (λ bytes. WritesText (IsRowsTextOf bytes read.1) (stream (Some []) (Some output))) read.2.structure
            (resolved (named_in known (option_copied table)) read.1 (λ rows. IfSome (structure_in known file.now)
            (λ bytes. WritesText (IsRowsTextOf bytes rows) (stream (Some []) (Some output)))) read.2.user run.done),
      ),
    )
wrote files input output proof code (Rows file table) (Err fault, is, run) of =
    absurd (unanswered fault code is of)

-- what words wrote that have an answer
pub answered_in_memory : (files : List NamedFile) (input : List ℕ) (words : List (List ℕ)) (code : ℕ) (output : List ℕ)
    (proof : Option (List ℕ)) → Answers (sources_of files input) words (stream (Some []) (Some output)) proof code
    → AnswersInMemory files input words code output proof
answered_in_memory files input words code output proof (inl (formed, request, asked, does)) = record {
  answers = inl (formed, request, asked, does);
  written = λ of. let all = wrote files input output proof code request does of in
      inl (formed, request, asked, all.0, all.1, all.2);
}
answered_in_memory files input words code output proof (inr (kept, why)) = record {
  answers = inr (kept, why);
  written = λ of. inr (kept, why);
}
