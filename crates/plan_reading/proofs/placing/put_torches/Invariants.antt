use Rattle.std.proofs.Common.{take}
use Rattle.plan_reading.specs.Putting.{ArePut}
use Rattle.plan_reading.proofs.placing.put_torches.Given as goal

-- the torches so far were put
abbrev pub invariant-loop-torch : goal.invariant-loop-torch
invariant-loop-torch l = ArePut l.world (take l.torch-index l.torches) l.classes.items
