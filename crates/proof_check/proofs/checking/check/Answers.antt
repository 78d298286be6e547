use Rattle.std.proofs.lemmas.Result.{err_from_is_err_and}
use Rattle.std.specs.Prelude.{option_copied}
use Rattle.cave_model.specs.RuleOf.{rule_of}
use Rattle.proof_check.proofs.VerdictLemmas.{cave_fault, cave_refused, cave_clean, no_cave, one_verdict}
use Rattle.proof_check.proofs.checking.check.Goals as goal

pub returns-in_err-world-clause-only : goal.returns-in_err-world-clause-only
returns-in_err-world-clause-only c =
    let p = err_from_is_err_and c.from_residual.result c.from_residual.ensures.1 in
    rw (p.1, p.2) (no_cave c.args.structure.now (option_copied c.args.table)
    (rule_of c.args.rule) c.args.certificate.now c.in_err-world.field-0.0 c.in_err-world.ensures.only)

pub returns-in_err-world-clause-fault : goal.returns-in_err-world-clause-fault
returns-in_err-world-clause-fault c =
    let p = err_from_is_err_and c.from_residual.result c.from_residual.ensures.1 in
    rw (p.1, p.2) (cave_fault c.args.structure.now (option_copied c.args.table)
    c.in_err-world.field-0.0 c.in_err-world.ensures.fault)

pub returns-in_err-world-clause-refused : goal.returns-in_err-world-clause-refused
returns-in_err-world-clause-refused c =
    let p = err_from_is_err_and c.from_residual.result c.from_residual.ensures.1 in
    rw (p.1, p.2) (cave_refused c.args.structure.now (option_copied c.args.table)
    c.in_err-world.field-0.0 c.in_err-world.ensures.refused)

pub returns-clause-only : goal.returns-clause-only
returns-clause-only c = one_verdict c.args.structure.now (option_copied c.args.table)
    (rule_of c.args.rule) c.args.certificate.now c.in_ok-world.world c.in_ok-verdict.verdict c.in_ok-world.ensures.only
    c.in_ok-verdict.ensures

pub returns-clause-refused : goal.returns-clause-refused
returns-clause-refused c = λ e due. absurd
    (cave_clean c.args.structure.now (option_copied c.args.table) c.in_ok-world.ensures.refused e due)
