use Rattle.std.proofs.Common.{◌∙◌}
use Rattle.cave_base.specs.Box as grid
use Rattle.scan_core.specs.Faults.{place_fault}
use Rattle.scan_core.proofs.ScanLemmas.{on_is}
use Rattle.scan_core.proofs.ValueLemmas.{on_triple-wrong}
use Rattle.scan_core.proofs.block.place_of.Goals as goal

pub returns-in_default-triple : goal.returns-in_default-triple
returns-in_default-triple c =
    on_is c.args.found c.in-Some.value _ _ c.in-Some.is
    ∙ on_triple-wrong _ (place_fault (grid.point c.args.size) c.args.index) c.in-Some.value c.in_default-triple.ensures
