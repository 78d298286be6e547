use Rattle.std.proofs.Common.{codes, refl, rules}
use Rattle.std.proofs.lemmas.Result.{IfOk-weaker}
use Rattle.command_words.specs.Options.{IsGrownBy, headroom, valued}
use Rattle.command_words.proofs.WordLemmas.{grown_more}
use Rattle.command_words.proofs.command.ruled.Goals as goal

pub returns : goal.returns
returns c =
    let none : IsGrownBy (λ app. app) c.args.command c.args.command = record {
      shape = refl;
      local = λ none. none;
    } in
    let one = grown_more _ headroom _ _ _ _ none (search rules) c.in_ok-arg.ensures in
    let two = grown_more _ (valued (codes "rule")) _ _ _ _ one (search rules) c.in_ok-arg-2.ensures in
    IfOk-weaker c.arg-3.result _ _ (λ r h. grown_more _ (valued (codes "table")) _ _ _ _ two c.table.ensures h)
    c.arg-3.ensures
