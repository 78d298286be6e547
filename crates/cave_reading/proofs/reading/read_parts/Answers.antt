use Rattle.std.proofs.Common.{ap, inl, inr}
use Rattle.std.proofs.lemmas.Result.{err_from_is_err_and}
use Rattle.std.specs.Prelude.{option_copied}
use Rattle.cave_reading.specs.Merging.{of_rows, of_scan}
use Rattle.cave_reading.proofs.ReadLemmas.{no_structure, no_table, parts_clean, rows_refused, scan_refused}
use Rattle.cave_reading.proofs.reading.read_parts.Goals as goal

pub returns-in_err-scan-clause-fault : goal.returns-in_err-scan-clause-fault
returns-in_err-scan-clause-fault c =
    let p = err_from_is_err_and c.from_residual.result c.from_residual.ensures.1 in
    rw (p.1, p.2) (λ other. inl (no_structure c.args.structure.now (option_copied c.args.table)
    c.in_err-scan.field-0.0 c.in_err-scan.ensures.fault other))

pub returns-in_err-scan-clause-refused : goal.returns-in_err-scan-clause-refused
returns-in_err-scan-clause-refused c =
    let p = err_from_is_err_and c.from_residual.result c.from_residual.ensures.1 in
    rw (p.1, p.2) (scan_refused c.args.structure.now (option_copied c.args.table)
    c.in_err-scan.field-0.0 c.in_err-scan.ensures.only c.in_err-scan.ensures.refused)

pub returns-in_err-rows-clause-fault : goal.returns-in_err-rows-clause-fault
returns-in_err-rows-clause-fault c =
    let p = err_from_is_err_and c.from_residual-in_err-rows.result c.from_residual-in_err-rows.ensures.1 in
    rw (p.1, p.2) (λ other. inr (
      c.in_ok-scan.scan,
      c.in_ok-scan.ensures.found,
      no_table c.args.structure.now
          (option_copied c.args.table) c.in_err-rows.field-0.0 c.in_err-rows.ensures.fault other,
    ))

pub returns-in_err-rows-clause-refused : goal.returns-in_err-rows-clause-refused
returns-in_err-rows-clause-refused c =
    let p = err_from_is_err_and c.from_residual-in_err-rows.result c.from_residual-in_err-rows.ensures.1 in
    rw (p.1, p.2) (rows_refused c.args.structure.now (option_copied c.args.table)
    c.in_err-rows.field-0.0 c.in_ok-scan.ensures.refused c.in_err-rows.ensures.refused)

pub returns-clause-refused : goal.returns-clause-refused
returns-clause-refused c = λ e due. absurd (parts_clean c.args.structure.now (option_copied c.args.table)
    c.in_ok-scan.ensures.refused c.in_ok-rows.ensures.refused e due)

pub returns-in_err-scan-clause-only : goal.returns-in_err-scan-clause-only
returns-in_err-scan-clause-only c =
    let p = err_from_is_err_and c.from_residual.result c.from_residual.ensures.1 in
    rw (p.1, p.2) (λ scan rows scans told. ap of_scan (c.in_err-scan.ensures.only scan scans))

pub returns-in_err-rows-clause-only : goal.returns-in_err-rows-clause-only
returns-in_err-rows-clause-only c =
    let p = err_from_is_err_and c.from_residual-in_err-rows.result c.from_residual-in_err-rows.ensures.1 in
    rw (p.1, p.2) (λ scan rows scans told. ap of_rows (c.in_err-rows.ensures.only rows told))

pub returns-clause-only : goal.returns-clause-only
returns-clause-only c =
    λ scan rows scans told. (c.in_ok-scan.ensures.only scan scans, c.in_ok-rows.ensures.only rows told)
