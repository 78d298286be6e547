use Rattle.std.proofs.Common.{◌∙◌, ap, codes, refl, rules}
use Rattle.std.specs.Prelude.{option_copied}
use Rattle.std.specs.Str.Parse.{ParsesUnsigned, ExplainsUnsignedError, HasUnsignedDigitsIfOk}
use Rattle.clap.specs.Words.{found_of, rows_of}
use Rattle.clap.proofs.WalkLemmas.{one_text-rows}
use Rattle.command_words.proofs.UnaskedLemmas.{none_found, no_crew, no_file, no_file_for_proof, no_rule}
use Rattle.command_words.proofs.WordLemmas.{text_of, told_by}
use Rattle.command_words.proofs.request.plan_of.Goals as goal

pub returns : goal.returns
returns c = let f = found_of c.args.matches.now in let flag = one_text-rows f (codes "progress") in (
  refl,
  text_of f (codes "FILE") c.get_str.result c.get_str.ensures ∙ ap option_copied c.in_ok-get_str.was,
  text_of f (codes "table") c.get_str-2.result c.get_str-2.ensures,
  c.in_ok-rule_of.ensures.some,
  c.in_ok-workers_of.ensures.some,
  told_by (λ bs r. ParsesUnsigned 64 10 bs r × ExplainsUnsignedError 10 bs r × HasUnsignedDigitsIfOk bs r) 64
      (λ text r g. g.0) f (codes "turns") c.get_one.result c.get_one.ensures.none
      c.get_one.ensures.value,
  c.in_ok-proof_of.ensures.some,
  record {
    told = λ e. c.get_flag.ensures.value (flag ∙ e);
    untold = λ e. c.get_flag.ensures.none (flag ∙ e);
    denied = λ e. c.get_flag.ensures.other (flag ∙ e);
  },
)

pub returns-in_err-get_str : goal.returns-in_err-get_str
returns-in_err-get_str c =
    let f = found_of c.args.matches.now in
    let untold = text_of f (codes "FILE") c.get_str.result c.get_str.ensures ∙ ap option_copied c.in_err-get_str.was in
    none_found _ (rows_of f) c.from_residual.result (no_file (codes "plan") (rows_of f) untold) (search rules)

pub returns-in_err-rule_of : goal.returns-in_err-rule_of
returns-in_err-rule_of c = let f = found_of c.args.matches.now in
    none_found _ (rows_of f) c.from_residual-in_err-rule_of.result (no_rule (codes "plan") (rows_of f) refl
    c.in_err-rule_of.ensures.none) (search rules)

pub returns-in_err-workers_of : goal.returns-in_err-workers_of
returns-in_err-workers_of c = let f = found_of c.args.matches.now in
    none_found _ (rows_of f) c.from_residual-in_err-workers_of.result (no_crew (rows_of f)
    c.in_err-workers_of.ensures.none) (search rules)

pub returns-in_err-proof_of : goal.returns-in_err-proof_of
returns-in_err-proof_of c = let f = found_of c.args.matches.now in
    none_found _ (rows_of f) c.from_residual-in_err-proof_of.result (no_file_for_proof (rows_of f)
    c.in_err-proof_of.ensures.none) (search rules)
