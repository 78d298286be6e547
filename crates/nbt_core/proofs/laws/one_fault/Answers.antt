use Rattle.nbt_core.proofs.Uniqueness.{same_fault}
use Rattle.nbt_core.proofs.laws.one_fault.Goals as goal

pub returns : goal.returns
returns c = same_fault
