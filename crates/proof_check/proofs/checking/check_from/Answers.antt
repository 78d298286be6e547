use Rattle.std.proofs.lemmas.Result.{err_from_is_err_and}
use Rattle.std.specs.Prelude.{option_copied}
use Rattle.cave_model.specs.RuleOf.{rule_of}
use Rattle.proof_check.proofs.ReadCheckLemmas.{check_judged, check_refused, check_unread, of_reader}
use Rattle.proof_check.proofs.checking.check_from.Goals as goal

pub returns-in_err-verdict-in-Ok : goal.returns-in_err-verdict-in-Ok
returns-in_err-verdict-in-Ok g c =
    let p = err_from_is_err_and c.from_residual.result c.from_residual.ensures.1 in
    rw (p.1, p.2) (check_unread c.args.structure.now (option_copied c.args.table) (rule_of c.args.rule)
    (g.C.Read.remaining c.args.certificate.now) (g.C.Read.remaining c.judge_from.new.reader) c.args.limit
    c.in_err-verdict-in-Ok.field-0.0 c.in_err-verdict-in-Ok.ensures.kinds
    c.in_err-verdict-in-Ok.ensures.too_long c.in_err-verdict-in-Ok.ensures.before)

pub returns-in_ok-verdict-in-Ok : goal.returns-in_ok-verdict-in-Ok
returns-in_ok-verdict-in-Ok g c = check_judged c.args.structure.now (option_copied c.args.table) (rule_of c.args.rule)
    (g.C.Read.remaining c.args.certificate.now) (g.C.Read.remaining c.judge_from.new.reader) c.args.limit
    c.in-Ok.world c.in_ok-verdict-in-Ok.verdict c.in-Ok.ensures.found c.in-Ok.ensures.only c.in-Ok.ensures.refused
    c.in_ok-verdict-in-Ok.ensures.whole c.in_ok-verdict-in-Ok.ensures.within

pub returns-in_err-pass_over-in-Err : goal.returns-in_err-pass_over-in-Err
returns-in_err-pass_over-in-Err g c =
    let p = err_from_is_err_and c.from_residual-in_err-pass_over-in-Err.result
    c.from_residual-in_err-pass_over-in-Err.ensures.1 in
    let e = c.in_err-pass_over-in-Err.field-0.0 in
    rw (p.1, p.2) (check_unread c.args.structure.now (option_copied c.args.table) (rule_of c.args.rule)
    (g.C.Read.remaining c.args.certificate.now) (g.C.Read.remaining c.pass_over.new.reader) c.args.limit
    e (of_reader e c.in_err-pass_over-in-Err.ensures.kinds)
    c.in_err-pass_over-in-Err.ensures.too_long c.in_err-pass_over-in-Err.ensures.before)

pub returns-in_ok-pass_over-in-Err : goal.returns-in_ok-pass_over-in-Err
returns-in_ok-pass_over-in-Err g c = check_refused c.args.structure.now (option_copied c.args.table)
    (rule_of c.args.rule) (g.C.Read.remaining c.args.certificate.now) (g.C.Read.remaining c.pass_over.new.reader)
    c.args.limit c.in-Err.fault c.from.result c.from.ensures c.in-Err.ensures.only c.in-Err.ensures.fault
    c.in-Err.ensures.refused c.in_ok-pass_over-in-Err.ensures.whole
