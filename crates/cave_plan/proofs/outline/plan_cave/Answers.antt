use Rattle.std.proofs.lemmas.Result.{err_from_is_err_and}
use Rattle.cave_plan.proofs.outline.plan_cave.Goals as goal

pub returns-in_err-regions-clause-fault : goal.returns-in_err-regions-clause-fault
returns-in_err-regions-clause-fault g c =
    let p = err_from_is_err_and c.from_residual.result c.from_residual.ensures.1 in
    rw (p.1, p.2) (λ other thread. c.in_err-regions.ensures.fault other)

pub returns-in_err-plans-clause-refused : goal.returns-in_err-plans-clause-refused
returns-in_err-plans-clause-refused g c = λ e named. absurd (c.in_ok-regions.ensures.refused e named)
