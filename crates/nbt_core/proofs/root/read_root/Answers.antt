use Rattle.nbt_core.specs.View.{nbt}
use Rattle.nbt_core.proofs.ReadRoot.{is_root, root_is_read, is_fault, fault_is_met}
use Rattle.nbt_core.proofs.root.read_root.Goals as goal

pub returns-clause-found : goal.returns-clause-found
returns-clause-found c = is_root nbt c.args.bytes.now c.root.result c.root.ensures.read

pub returns-clause-only : goal.returns-clause-only
returns-clause-only c = root_is_read nbt c.args.bytes.now c.root.result c.root.ensures.read

pub returns-clause-fault : goal.returns-clause-fault
returns-clause-fault c = is_fault nbt c.args.bytes.now c.root.result c.root.ensures.read

pub returns-clause-refused : goal.returns-clause-refused
returns-clause-refused c = fault_is_met nbt c.args.bytes.now c.root.result c.root.ensures.read
