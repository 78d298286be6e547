use Rattle.nbt_core.proofs.Uniqueness.{no_root_with_fault}
use Rattle.nbt_core.proofs.laws.root_has_no_fault.Goals as goal

pub returns : goal.returns
returns c = no_root_with_fault
