use Rattle.nbt_views.specs.Fields.{four_fields}
use Rattle.nbt_views.proofs.RootFields.{root_is_found, only_root_is_found, fault_is_its, fault_is_answered}
use Rattle.nbt_views.proofs.judge.root_fields.Goals as goal

pub returns-clause-found : goal.returns-clause-found
returns-clause-found c = root_is_found (four_fields c.args.a.now c.args.b.now c.args.c.now c.args.d.now)
    c.args.bytes.now c.judged.result c.judged.ensures.read

pub returns-clause-only : goal.returns-clause-only
returns-clause-only c = only_root_is_found (four_fields c.args.a.now c.args.b.now c.args.c.now c.args.d.now)
    c.args.bytes.now c.judged.result c.judged.ensures.read c.judged.ensures.no_memory

pub returns-clause-fault : goal.returns-clause-fault
returns-clause-fault c = fault_is_its (four_fields c.args.a.now c.args.b.now c.args.c.now c.args.d.now)
    c.args.bytes.now c.judged.result c.judged.ensures.read c.judged.ensures.no_memory

pub returns-clause-refused : goal.returns-clause-refused
returns-clause-refused c = fault_is_answered (four_fields c.args.a.now c.args.b.now c.args.c.now c.args.d.now)
    c.args.bytes.now c.judged.result c.judged.ensures.read c.judged.ensures.no_memory
