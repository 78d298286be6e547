use Rattle.std.proofs.Common.{codes, rules}
use Rattle.std.proofs.lemmas.Result.{IfOk-weaker}
use Rattle.clap.specs.Words.{new_app}
use Rattle.command_words.specs.Options.{IsCommand}
use Rattle.command_words.proofs.WordLemmas.{grown_command, one_more}
use Rattle.command_words.proofs.command.check_command.Goals as goal

pub returns : goal.returns
returns c =
    let bare : IsCommand (new_app (codes "check")) c.after_help.result = record {
      shape = search rules;
      local = search rules;
    } in
    let on_file = one_more _ _ _ _ _ bare c.file.ensures c.in_ok-arg.ensures in
    let with_proof = one_more _ _ _ _ _ on_file c.certificate.ensures c.in_ok-command.ensures in
    IfOk-weaker c.ruled.result _ _ (λ r h. grown_command _ _ _ _ with_proof h) c.ruled.ensures
