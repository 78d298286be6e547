use Rattle.std.proofs.Common.{rules}
use Rattle.beacon.proofs.StepLemmas.{looks}
use Rattle.beacon.proofs.beacon.Beacon.look.Goals as goal

pub load-requires : goal.load-requires
load-requires c = (search rules, search rules, looks _ _ _ c.seat.invariant.1)
