use Rattle.std.proofs.Common.{rules}
use Rattle.beacon.proofs.StepLemmas.{tells}
use Rattle.beacon.proofs.beacon.Beacon.tell.Goals as goal

pub fetch_min-requires : goal.fetch_min-requires
fetch_min-requires c = (search rules, search rules, tells _ _ _ c.args.size c.seat.invariant.1)
