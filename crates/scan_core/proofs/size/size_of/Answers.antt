use Rattle.std.proofs.Common.{◌∙◌}
use Rattle.scan_core.specs.Faults.{side_fault}
use Rattle.scan_core.proofs.ScanLemmas.{on_is}
use Rattle.scan_core.proofs.ValueLemmas.{on_triple-wrong}
use Rattle.scan_core.proofs.size.size_of.Goals as goal

pub returns-in_default-triple : goal.returns-in_default-triple
returns-in_default-triple c =
    on_is c.args.found c.in-Some.value _ _ c.in-Some.is
    ∙ on_triple-wrong _ side_fault c.in-Some.value c.in_default-triple.ensures
