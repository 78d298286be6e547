use Rattle.std.proofs.lemmas.Result.{err_from_is_err_and}
use Rattle.std.specs.Prelude.{option_copied}
use Rattle.cave_runs.proofs.RunLemmas.{cave_fault, cave_refused, cave_clean}
use Rattle.cave_runs.proofs.dark.text_of.Goals as goal

pub returns-in_err-world-clause-fault : goal.returns-in_err-world-clause-fault
returns-in_err-world-clause-fault g c =
    let p = err_from_is_err_and c.from_residual.result c.from_residual.ensures.1 in
    rw (p.1, p.2) (cave_fault c.args.bytes.now (option_copied c.args.table) c.in_err-world.field-0.0
    c.in_err-world.ensures.fault)

pub returns-in_err-world-clause-refused : goal.returns-in_err-world-clause-refused
returns-in_err-world-clause-refused g c =
    let p = err_from_is_err_and c.from_residual.result c.from_residual.ensures.1 in
    rw (p.1, p.2) (cave_refused c.args.bytes.now (option_copied c.args.table) c.in_err-world.field-0.0
    c.in_err-world.ensures.refused)

pub returns-clause-refused : goal.returns-clause-refused
returns-clause-refused g c = λ e due. absurd (cave_clean c.args.bytes.now (option_copied c.args.table)
    c.in_ok-world.ensures.refused e due)
