use Rattle.std.proofs.lemmas.Result.{err_from_is_err_and}
use Rattle.scan_core.proofs.ReadLemmas.{one_root, root_only, root_fault, root_refused, no_root_only, no_root_refused}
use Rattle.scan_core.proofs.read.read_scan.Goals as goal

pub returns-in_err-size-clause-only : goal.returns-in_err-size-clause-only
returns-in_err-size-clause-only c =
    let p = err_from_is_err_and c.from_residual.result c.from_residual.ensures.1 in
    rw (p.1, p.2) (no_root_only c.args.bytes.now c.in_err-size.field-0.0 c.in_err-size.ensures.only)

pub returns-in_err-size-clause-refused : goal.returns-in_err-size-clause-refused
returns-in_err-size-clause-refused c =
    let p = err_from_is_err_and c.from_residual.result c.from_residual.ensures.1 in
    rw (p.1, p.2) (no_root_refused c.args.bytes.now c.in_err-size.field-0.0 c.in_err-size.ensures.only
    c.in_err-size.ensures.refused)

pub returns-clause-only : goal.returns-clause-only
returns-clause-only c =
    let root = c.in_ok-size.ensures.found in
    root_only c.args.bytes.now root.0 c.scan_of.result (one_root c.args.bytes.now root.0 root.1)
    (c.scan_of.ensures root.0 root.2)

pub returns-clause-fault : goal.returns-clause-fault
returns-clause-fault c =
    let root = c.in_ok-size.ensures.found in
    root_fault c.args.bytes.now root.0 c.scan_of.result root.1 (c.scan_of.ensures root.0 root.2)

pub returns-clause-refused : goal.returns-clause-refused
returns-clause-refused c =
    let root = c.in_ok-size.ensures.found in
    root_refused c.args.bytes.now root.0 c.scan_of.result (one_root c.args.bytes.now root.0 root.1)
    c.in_ok-size.ensures.refused (c.scan_of.ensures root.0 root.2)
