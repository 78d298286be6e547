use Rattle.scan_core.proofs.One.{one_structure}
use Rattle.scan_core.proofs.laws.one_structure.Goals as goal

pub returns : goal.returns
returns c = one_structure
