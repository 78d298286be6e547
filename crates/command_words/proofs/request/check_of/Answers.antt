use Rattle.std.proofs.Common.{◌∙◌, ap, codes, refl, rules}
use Rattle.std.specs.Prelude.{option_copied}
use Rattle.clap.specs.Words.{found_of, rows_of}
use Rattle.command_words.proofs.UnaskedLemmas.{none_found, no_file, no_proof, no_rule}
use Rattle.command_words.proofs.WordLemmas.{text_of}
use Rattle.command_words.proofs.request.check_of.Goals as goal

pub returns : goal.returns
returns c = let f = found_of c.args.matches.now in (
  refl,
  text_of f (codes "FILE") c.get_str.result c.get_str.ensures ∙ ap option_copied c.in_ok-get_str.was,
  text_of f (codes "PROOF") c.get_str-2.result c.get_str-2.ensures ∙ ap option_copied c.in_ok-get_str-2.was,
  text_of f (codes "table") c.get_str-3.result c.get_str-3.ensures,
  c.in_ok-rule_of.ensures.some,
)

pub returns-in_err-get_str : goal.returns-in_err-get_str
returns-in_err-get_str c =
    let f = found_of c.args.matches.now in
    let untold = text_of f (codes "FILE") c.get_str.result c.get_str.ensures ∙ ap option_copied c.in_err-get_str.was in
    none_found _ (rows_of f) c.from_residual.result (no_file (codes "check") (rows_of f) untold) (search rules)

pub returns-in_err-get_str-2 : goal.returns-in_err-get_str-2
returns-in_err-get_str-2 c =
    let f = found_of c.args.matches.now in
    let untold = text_of f (codes "PROOF") c.get_str-2.result c.get_str-2.ensures
    ∙ ap option_copied c.in_err-get_str-2.was in
    none_found _ (rows_of f) c.from_residual-in_err-get_str-2.result (no_proof (rows_of f) untold) (search rules)

pub returns-in_err-rule_of : goal.returns-in_err-rule_of
returns-in_err-rule_of c = let f = found_of c.args.matches.now in
    none_found _ (rows_of f) c.from_residual-in_err-rule_of.result (no_rule (codes "check") (rows_of f) refl
    c.in_err-rule_of.ensures.none) (search rules)
