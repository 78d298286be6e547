use Rattle.scan_core.proofs.WholeLemmas.{scan_whole}
use Rattle.scan_core.proofs.laws.structures_are_whole.Goals as goal

pub returns : goal.returns
returns c = scan_whole
