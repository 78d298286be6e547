use Rattle.nbt_core.proofs.Uniqueness.{some_root_or_fault}
use Rattle.nbt_core.proofs.laws.root_or_fault.Goals as goal

pub returns : goal.returns
returns c = some_root_or_fault
