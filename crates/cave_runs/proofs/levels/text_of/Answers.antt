use Rattle.std.proofs.Common.{◌≡◌, ◌⊎◌, ap, inl}
use Rattle.std.proofs.lemmas.Result.{err_from_is_err_and}
use Rattle.std.specs.Prelude.{option_copied}
use Rattle.cave_model.specs.RuleOf.{rule_of}
use Rattle.cave_runs.specs.Faults.{run_fault_of}
use Rattle.cave_runs.specs.declared.fault.RunFault.TheVariants as faults
use Rattle.cave_runs.proofs.RunLemmas.{cave_clean, cave_fault, cave_refused}
use Rattle.cave_runs.proofs.LevelsRunLemmas.{cave_first, plan_next}
use Rattle.cave_runs.proofs.levels.text_of.Goals as goal

pub returns-in_err-world-clause-fault : goal.returns-in_err-world-clause-fault
returns-in_err-world-clause-fault g c =
    let p = err_from_is_err_and c.from_residual.result c.from_residual.ensures.1 in
    rw (p.1, p.2) (λ other. inl (cave_fault c.args.bytes.now (option_copied c.args.table) c.in_err-world.field-0.0
    c.in_err-world.ensures.fault other))

pub returns-in_err-world-clause-refused : goal.returns-in_err-world-clause-refused
returns-in_err-world-clause-refused g c =
    let p = err_from_is_err_and c.from_residual.result c.from_residual.ensures.1 in
    rw (p.1, p.2) (cave_first c.args.bytes.now (option_copied c.args.table) (rule_of c.args.rule)
    (option_copied c.args.plan) (run_fault_of c.in_err-world.field-0.0)
    (λ cave told. ap run_fault_of (c.in_err-world.ensures.only cave told))
    (cave_refused c.args.bytes.now (option_copied c.args.table) c.in_err-world.field-0.0
    c.in_err-world.ensures.refused))

pub returns-clause-refused : goal.returns-clause-refused
returns-clause-refused g c = plan_next c.args.bytes.now (option_copied c.args.table) (rule_of c.args.rule)
    (option_copied c.args.plan) c.in_ok-world.world (λ due. ⊥)
    (cave_clean c.args.bytes.now (option_copied c.args.table) c.in_ok-world.ensures.refused)
    c.in_ok-world.ensures.only c.in_ok-lit.ensures.refused

pub returns-in_err-lit-clause-refused : goal.returns-in_err-lit-clause-refused
returns-in_err-lit-clause-refused g c =
    let p = err_from_is_err_and c.from_residual-in_err-lit.result c.from_residual-in_err-lit.ensures.1 in
    rw (p.1, p.2) (plan_next c.args.bytes.now (option_copied c.args.table) (rule_of c.args.rule)
    (option_copied c.args.plan) c.in_ok-world.world
    (λ due. (c.in_err-lit.field-0.0 ≡ due) ⊎ (c.in_err-lit.field-0.0 ≡ faults.OutOfMemory))
    (cave_clean c.args.bytes.now (option_copied c.args.table) c.in_ok-world.ensures.refused)
    c.in_ok-world.ensures.only c.in_err-lit.ensures.refused)
