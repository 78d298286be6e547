use Rattle.std.proofs.Common.{◌∙◌, ℕ, Option, codes, subst, sym}
use Rattle.std.specs.Str.Parse.{ParsesUnsigned, ExplainsUnsignedError, HasUnsignedDigitsIfOk}
use Rattle.clap.specs.Words.{Text, first_of, found_of, rows_of}
use Rattle.cave_model.specs.Rule.{Rule}
use Rattle.command_words.specs.Requests.{IsRuleOf}
use Rattle.command_words.specs.Versions.{IsNeedFor}
use Rattle.command_words.proofs.UnaskedLemmas.{if_none}
use Rattle.command_words.proofs.WordLemmas.{text_of, told_by}
use Rattle.command_words.proofs.request.rule_of.Goals as goal

pub returns-clause-some : goal.returns-clause-some
returns-clause-some c =
    let f = found_of c.args.matches.now in
    let text = text_of f (codes "rule") c.get_str.result c.get_str.ensures in
    record {
      told = c.get_one.result;
      tells = told_by (λ bs r. ParsesUnsigned 8 10 bs r × ExplainsUnsignedError 10 bs r × HasUnsignedDigitsIfOk bs r) 8
          (λ text r g. g.0) f (codes "headroom") c.get_one.result c.get_one.ensures.none
          c.get_one.ensures.value;
      headroom = c.new.ensures.headroom ∙ c.headroom_by-headroom.ensures.headroom;
      need = subst (λ (n : ℕ). IsNeedFor (first_of (codes "rule") (rows_of f)) n) (sym c.new.ensures.need)
          (subst (λ (o : Option Text). IsNeedFor o c.in_ok-need.need) (sym text) c.in_ok-need.ensures.need);
    }

pub returns-in_err-need-clause-none : goal.returns-in_err-need-clause-none
returns-in_err-need-clause-none c =
    let f = found_of c.args.matches.now in
    let text = text_of f (codes "rule") c.get_str.result c.get_str.ensures in
    let none : (rule : Rule) → ¬ IsRuleOf (rows_of f) rule = λ rule is.
    c.in_err-need.ensures.none rule.need (subst (λ (o : Option Text). IsNeedFor o rule.need) text is.need) in
    if_none c.from_residual.result _ none
