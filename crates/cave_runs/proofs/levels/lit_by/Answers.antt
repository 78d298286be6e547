use Rattle.std.proofs.lemmas.Result.{err_from_is_err_and}
use Rattle.cave_runs.proofs.LevelsRunLemmas.{plan_clean, plan_refused}
use Rattle.cave_runs.proofs.levels.lit_by.Goals as goal

pub returns-in_err-lit-in-Some-clause-refused : goal.returns-in_err-lit-in-Some-clause-refused
returns-in_err-lit-in-Some-clause-refused c =
    let p = err_from_is_err_and c.from_residual.result c.from_residual.ensures.1 in
    rw (p.1, p.2, c.in-Some.is) (plan_refused c.args.world c.in-Some.text.now c.in_err-lit-in-Some.field-0.0
    c.in_err-lit-in-Some.ensures.refused)

pub returns-in_ok-lit-in-Some-clause-refused : goal.returns-in_ok-lit-in-Some-clause-refused
returns-in_ok-lit-in-Some-clause-refused c =
    rw c.in-Some.is (plan_clean c.args.world c.in-Some.text.now c.in_ok-lit-in-Some.ensures.refused)
