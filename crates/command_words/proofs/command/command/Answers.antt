use Rattle.std.proofs.Common.{◌≡◌, ◌∙◌, ap, ap₂, rules}
use Rattle.std.proofs.lemmas.Result.{IfOk-weaker}
use Rattle.clap.specs.Words.{App, app_of, with_subcommand}
use Rattle.command_words.specs.Options.{bare}
use Rattle.command_words.proofs.WordLemmas.{neither}
use Rattle.command_words.proofs.command.command.Goals as goal

pub returns : goal.returns
returns c =
    let base : app_of c.arg_required_else_help.result ≡ bare = search rules in
    let dark = c.in_ok-dark_command.ensures in
    let plan = c.in_ok-plan_command.ensures in
    let check = c.in_ok-check_command.ensures in
    let levels = c.in_ok-levels_command.ensures in
    let rows = c.in_ok-rows_command.ensures in
    let top = λ (a : App). a.top in
    let one = c.in_ok-subcommand.ensures.shape dark.local ∙ ap₂ with_subcommand base (ap top dark.shape) in
    let two = c.in_ok-subcommand-2.ensures.shape plan.local ∙ ap₂ with_subcommand one (ap top plan.shape) in
    let local_one = c.in_ok-subcommand.ensures.globals ∙ neither _ _ (search rules) dark.local in
    let local_two = c.in_ok-subcommand-2.ensures.globals ∙ neither _ _ local_one plan.local in
    let three = c.in_ok-subcommand-3.ensures.shape check.local ∙ ap₂ with_subcommand two (ap top check.shape) in
    let local_three = c.in_ok-subcommand-3.ensures.globals ∙ neither _ _ local_two check.local in
    let four = c.in_ok-subcommand-4.ensures.shape levels.local ∙ ap₂ with_subcommand three (ap top levels.shape) in
    let local_four = c.in_ok-subcommand-4.ensures.globals ∙ neither _ _ local_three levels.local in
    IfOk-weaker c.subcommand-5.result _ _ (λ r h. record {
      shape = h.shape rows.local ∙ ap₂ with_subcommand four (ap top rows.shape);
      local = h.globals ∙ neither _ _ local_four rows.local;
    }) c.subcommand-5.ensures
