use Rattle.std.proofs.Common.{codes, rules}
use Rattle.std.proofs.lemmas.Result.{IfOk-weaker}
use Rattle.clap.specs.Words.{new_app}
use Rattle.command_words.specs.Options.{IsCommand}
use Rattle.command_words.proofs.WordLemmas.{grown_command, one_more}
use Rattle.command_words.proofs.command.levels_command.Goals as goal

pub returns : goal.returns
returns c =
    let bare : IsCommand (new_app (codes "levels")) c.after_help.result = record {
      shape = search rules;
      local = search rules;
    } in
    let on_file = one_more _ _ _ _ _ bare c.file.ensures c.in_ok-arg.ensures in
    let with_plan = one_more _ _ _ _ _ on_file c.told_plan.ensures c.in_ok-command.ensures in
    let ruled = grown_command _ _ _ _ with_plan c.in_ok-ruled.ensures in
    IfOk-weaker c.arg-3.result _ _ (λ r h. one_more _ _ _ _ _ ruled c.progress.ensures h) c.arg-3.ensures
