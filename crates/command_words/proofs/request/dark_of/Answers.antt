use Rattle.std.proofs.Common.{◌∙◌, ap, codes, refl, rules}
use Rattle.std.specs.Prelude.{option_copied}
use Rattle.clap.specs.Words.{found_of, rows_of}
use Rattle.clap.proofs.WalkLemmas.{one_text-rows}
use Rattle.command_words.proofs.UnaskedLemmas.{none_found, no_file, no_rule}
use Rattle.command_words.proofs.WordLemmas.{text_of}
use Rattle.command_words.proofs.request.dark_of.Goals as goal

pub returns : goal.returns
returns c = let f = found_of c.args.matches.now in let flag = one_text-rows f (codes "progress") in (
  refl,
  text_of f (codes "FILE") c.get_str.result c.get_str.ensures ∙ ap option_copied c.in_ok-get_str.was,
  text_of f (codes "table") c.get_str-2.result c.get_str-2.ensures,
  c.in_ok-rule_of.ensures.some,
  record {
    told = λ e. c.get_flag.ensures.value (flag ∙ e);
    untold = λ e. c.get_flag.ensures.none (flag ∙ e);
    denied = λ e. c.get_flag.ensures.other (flag ∙ e);
  },
)

pub returns-in_err-get_str : goal.returns-in_err-get_str
returns-in_err-get_str c =
    let f = found_of c.args.matches.now in
    let untold = text_of f (codes "FILE") c.get_str.result c.get_str.ensures ∙ ap option_copied c.in_err-get_str.was in
    none_found _ (rows_of f) c.from_residual.result (no_file (codes "dark") (rows_of f) untold) (search rules)

pub returns-in_err-rule_of : goal.returns-in_err-rule_of
returns-in_err-rule_of c = let f = found_of c.args.matches.now in
    none_found _ (rows_of f) c.from_residual-in_err-rule_of.result (no_rule (codes "dark") (rows_of f) refl
    c.in_err-rule_of.ensures.none) (search rules)
