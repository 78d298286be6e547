use Rattle.scan_core.proofs.ScanLemmas.{structure_clean}
use Rattle.scan_core.proofs.Building.{clean_structure}
use Rattle.scan_core.proofs.laws.structure_or_fault.Goals as goal

pub returns : goal.returns
returns c = λ root. (λ e. (let h = clean_structure root e in (h.scan, h.is)), λ s. structure_clean root s.0 s.1)
