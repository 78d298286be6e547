use Rattle.nbt_core.proofs.Uniqueness.{same_root}
use Rattle.nbt_core.proofs.laws.one_root.Goals as goal

pub returns : goal.returns
returns c = same_root
