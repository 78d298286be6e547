use Rattle.std.proofs.Common.{ap, inl, inr}
use Rattle.std.specs.Prelude.{option_copied}
use Rattle.std.proofs.lemmas.Result.{err_from_is_err_and}
use Rattle.cave_model.specs.RuleOf.{rule_of}
use Rattle.cave_runs.proofs.PlanRunLemmas.{cave_unplanned, threads_told, unlit_fault, unlit_named, unlit_refused}
use Rattle.cave_runs.proofs.PlanRunLemmas.{unplanned_here}
use Rattle.cave_base.specs.Box.{coordinates}
use Rattle.cave_plan.specs.Faults.{unlightable_at}
use Rattle.cave_runs.specs.Faults.{of_plan}
use Rattle.cave_runs.proofs.RunLemmas.{cave_fault}
use Rattle.cave_runs.proofs.plan.plan_bytes.Goals as goal

pub returns-in_err-world-clause-fault : goal.returns-in_err-world-clause-fault
returns-in_err-world-clause-fault g c =
    let p = err_from_is_err_and c.from_residual.result c.from_residual.ensures.1 in
    rw (p.1, p.2) (λ memory thread. inl (cave_fault c.args.bytes.now (option_copied c.args.table)
    c.in_err-world.field-0.0 c.in_err-world.ensures.fault memory))

pub returns-in_err-world-clause-refused : goal.returns-in_err-world-clause-refused
returns-in_err-world-clause-refused g c =
    let p = err_from_is_err_and c.from_residual.result c.from_residual.ensures.1 in
    rw (p.1, p.2) (cave_unplanned c.args.bytes.now (option_copied c.args.table) (rule_of c.args.rule)
    c.in_err-world.field-0.0
    c.in_err-world.ensures.refused c.in_err-world.ensures.only)

pub returns-in_err-outline-clause-fault : goal.returns-in_err-outline-clause-fault
returns-in_err-outline-clause-fault g c =
    let p = err_from_is_err_and c.from_residual-in_err-outline.result c.from_residual-in_err-outline.ensures.1 in
    let e = c.in_err-outline.field-0.0 in
    rw (p.1, p.2) (λ memory thread. inr (
      c.in_ok-world.world,
      c.in_ok-world.ensures.found,
      unlit_named c.in_ok-world.world e (c.in_err-outline.ensures.fault (λ same. memory (ap of_plan same))
          (λ same. thread (ap of_plan same))),
    ))

pub returns-in_err-outline-clause-threads : goal.returns-in_err-outline-clause-threads
returns-in_err-outline-clause-threads g c =
    let p = err_from_is_err_and c.from_residual-in_err-outline.result c.from_residual-in_err-outline.ensures.1 in
    rw (p.1, p.2) (λ same. c.in_err-outline.ensures.threads (threads_told c.in_err-outline.field-0.0 same))

pub returns-in_err-outline-clause-refused : goal.returns-in_err-outline-clause-refused
returns-in_err-outline-clause-refused g c =
    let p = err_from_is_err_and c.from_residual-in_err-outline.result c.from_residual-in_err-outline.ensures.1 in
    rw (p.1, p.2) (λ due no. unlit_refused c.in_ok-world.world c.in_err-outline.field-0.0
    c.in_err-outline.ensures.refused due
    (unplanned_here c.args.bytes.now (option_copied c.args.table) (rule_of c.args.rule) c.in_ok-world.world
    c.in_ok-world.ensures.refused c.in_ok-world.ensures.only due no))

pub returns-clause-refused : goal.returns-clause-refused
returns-clause-refused g c = λ due no.
    let u = unplanned_here c.args.bytes.now (option_copied c.args.table) (rule_of c.args.rule) c.in_ok-world.world
    c.in_ok-world.ensures.refused c.in_ok-world.ensures.only due no in
    absurd (c.in_ok-outline.ensures.refused (unlightable_at (coordinates c.in_ok-world.world.size u.cell))
    (unlit_fault c.in_ok-world.world due u))
