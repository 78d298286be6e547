use Rattle.std.proofs.Common.{◌∙◌, sym}
use Rattle.std.specs.Prelude.{option_copied}
use Rattle.cave_model.specs.RuleOf.{rule_of}
use Rattle.cave_runs.specs.Streams.{stream}
use Rattle.torch_plan.specs.Answers.{named_in}
use Rattle.torch_plan.proofs.RunLemmas.{dark_answered, file_in, standard_in, there_at_file, there_at_standard, told_as}
use Rattle.command_words.proofs.WordLemmas.{copied}
use Rattle.torch_plan.proofs.runs.answer_dark.Goals as goal

pub returns-then-eq : goal.returns-then-eq
returns-then-eq g c =
    let sources = g.S.System.sources c.args.environment.now.system.now in let file = c.args.file.now in
    let rows = c.as_deref-table in let run = c.run_dark in
    let told = told_as (named_in sources (option_copied c.args.table)) (option_copied rows.result) _
    (sym (copied rows.result) ∙ rows.ensures.value) c.in_ok-table.ensures.known in
    let same = c.standard.ensures ∙ sym (standard_in sources file (sym c.eq.ensures ∙ c.if-eq.true)) in
    dark_answered sources file (option_copied c.args.table) (rule_of c.args.rule)
    (stream (g.W.Write.contents c.args.output.now) (g.W.Write.contents run.new.writer)) _
    (option_copied rows.result) run.result same told run.ensures.done
    run.ensures.untouched run.ensures.begun run.ensures.fault
    (there_at_standard sources file (option_copied c.args.table)
    (sym c.eq.ensures ∙ c.if-eq.true) c.in_ok-table.ensures.there)

pub returns-in-Some : goal.returns-in-Some
returns-in-Some g c =
    let sources = g.S.System.sources c.args.environment.now.system.now in let file = c.args.file.now in
    let rows = c.as_deref-table in let run = c.run_dark-in-Some in
    let told = told_as (named_in sources (option_copied c.args.table)) (option_copied rows.result) _
    (sym (copied rows.result) ∙ rows.ensures.value) c.in_ok-table.ensures.known in
    let same = c.in-Some.ensures.bytes ∙ sym (file_in sources file (sym c.eq.ensures ∙ c.if-eq.false)) in
    dark_answered sources file (option_copied c.args.table) (rule_of c.args.rule)
    (stream (g.W.Write.contents c.args.output.now) (g.W.Write.contents run.new.writer)) _
    (option_copied rows.result) run.result same told run.ensures.done
    run.ensures.untouched run.ensures.begun run.ensures.fault
    (there_at_file sources file (option_copied c.args.table) c.in-Some.ensures.there c.in_ok-table.ensures.there)
