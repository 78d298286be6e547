use Rattle.std.proofs.Common.{ap}
use Rattle.std.proofs.lemmas.Result.{err_from_is_err_and}
use Rattle.std.specs.Prelude.{option_copied}
use Rattle.cave_model.specs.RuleOf.{rule_of}
use Rattle.cave_reading.specs.Merging.{of_build}
use Rattle.cave_reading.proofs.ReadLemmas.{build_fault, build_refused, built_clean, cave_at_hand, part_fault}
use Rattle.cave_reading.proofs.ReadLemmas.{parts_refused}
use Rattle.cave_reading.proofs.reading.read_cave.Goals as goal

pub returns-in_err-scan-clause-fault : goal.returns-in_err-scan-clause-fault
returns-in_err-scan-clause-fault c =
    let p = err_from_is_err_and c.from_residual.result c.from_residual.ensures.1 in
    rw (p.1, p.2) (λ other. part_fault c.args.structure.now (option_copied c.args.table) c.in_err-scan.field-0.0
    (c.in_err-scan.ensures.fault other))

pub returns-in_err-scan-clause-refused : goal.returns-in_err-scan-clause-refused
returns-in_err-scan-clause-refused c =
    let p = err_from_is_err_and c.from_residual.result c.from_residual.ensures.1 in
    rw (p.1, p.2) (parts_refused c.args.structure.now (option_copied c.args.table) c.in_err-scan.field-0.0
    c.in_err-scan.ensures.only c.in_err-scan.ensures.refused)

pub returns-in_err-scan-clause-only : goal.returns-in_err-scan-clause-only
returns-in_err-scan-clause-only c =
    let p = err_from_is_err_and c.from_residual.result c.from_residual.ensures.1 in
    rw (p.1, p.2) (λ cave is. c.in_err-scan.ensures.only is.scan is.rows is.scans is.told)

pub returns-in_err-world-clause-fault : goal.returns-in_err-world-clause-fault
returns-in_err-world-clause-fault c =
    let p = err_from_is_err_and c.from_residual-in_err-world.result c.from_residual-in_err-world.ensures.1 in
    rw (p.1, p.2) (build_fault c.args.structure.now (option_copied c.args.table)
    c.in_ok-scan.scan c.in_ok-scan.rows c.in_err-world.field-0.0 c.in_ok-scan.ensures.found.0
    c.in_ok-scan.ensures.found.1 c.in_err-world.ensures.fault)

pub returns-in_err-world-clause-refused : goal.returns-in_err-world-clause-refused
returns-in_err-world-clause-refused c =
    let p = err_from_is_err_and c.from_residual-in_err-world.result c.from_residual-in_err-world.ensures.1 in
    rw (p.1, p.2) (build_refused c.args.structure.now (option_copied c.args.table)
    c.in_ok-scan.scan c.in_ok-scan.rows c.in_ok-scan.ensures.only c.in_ok-scan.ensures.refused
    c.in_err-world.field-0.0 c.in_err-world.ensures.refused)

pub returns-in_err-world-clause-only : goal.returns-in_err-world-clause-only
returns-in_err-world-clause-only c =
    let p = err_from_is_err_and c.from_residual-in_err-world.result c.from_residual-in_err-world.ensures.1 in
    rw (p.1, p.2) (λ cave is. ap of_build (c.in_err-world.ensures.only cave
    (cave_at_hand c.args.structure.now (option_copied c.args.table) c.in_ok-scan.scan c.in_ok-scan.rows
    c.in_ok-scan.ensures.only (rule_of c.args.rule) cave is)))

pub returns-clause-refused : goal.returns-clause-refused
returns-clause-refused c = λ e due. absurd (built_clean c.args.structure.now (option_copied c.args.table)
    c.in_ok-scan.scan c.in_ok-scan.rows c.in_ok-scan.ensures.only c.in_ok-scan.ensures.refused
    c.in_ok-world.ensures.refused e due)

pub returns-clause-only : goal.returns-clause-only
returns-clause-only c = λ cave is. c.in_ok-world.ensures.only cave
    (cave_at_hand c.args.structure.now (option_copied c.args.table) c.in_ok-scan.scan c.in_ok-scan.rows
    c.in_ok-scan.ensures.only (rule_of c.args.rule) cave is)
