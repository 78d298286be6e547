use Rattle.std.proofs.lemmas.Result.{err_from_is_err_and}
use Rattle.std.specs.Prelude.{option_copied}
use Rattle.cave_runs.proofs.RowsRunLemmas.{parts_clean, parts_fault, parts_refused}
use Rattle.cave_runs.proofs.rows.text_of.Goals as goal

pub returns-in_err-scan-clause-fault : goal.returns-in_err-scan-clause-fault
returns-in_err-scan-clause-fault c =
    let p = err_from_is_err_and c.from_residual.result c.from_residual.ensures.1 in
    rw (p.1, p.2) (parts_fault c.args.bytes.now (option_copied c.args.table) c.in_err-scan.field-0.0
    c.in_err-scan.ensures.fault)

pub returns-in_err-scan-clause-refused : goal.returns-in_err-scan-clause-refused
returns-in_err-scan-clause-refused c =
    let p = err_from_is_err_and c.from_residual.result c.from_residual.ensures.1 in
    rw (p.1, p.2) (parts_refused c.args.bytes.now (option_copied c.args.table) c.in_err-scan.field-0.0
    c.in_err-scan.ensures.refused)

pub returns-clause-refused : goal.returns-clause-refused
returns-clause-refused c = λ e due. absurd (parts_clean c.args.bytes.now (option_copied c.args.table)
    c.in_ok-scan.ensures.refused e due)
