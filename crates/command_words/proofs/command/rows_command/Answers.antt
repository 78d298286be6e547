use Rattle.std.proofs.Common.{codes, rules}
use Rattle.std.proofs.lemmas.Result.{IfOk-weaker}
use Rattle.clap.specs.Words.{new_app}
use Rattle.command_words.specs.Options.{IsCommand}
use Rattle.command_words.proofs.WordLemmas.{one_more}
use Rattle.command_words.proofs.command.rows_command.Goals as goal

pub returns : goal.returns
returns c =
    let bare : IsCommand (new_app (codes "rows")) c.after_help.result = record {
      shape = search rules;
      local = search rules;
    } in
    let on_file = one_more _ _ _ _ _ bare c.file.ensures c.in_ok-arg.ensures in
    IfOk-weaker c.arg-2.result _ _ (λ r h. one_more _ _ _ _ _ on_file c.table.ensures h) c.arg-2.ensures
