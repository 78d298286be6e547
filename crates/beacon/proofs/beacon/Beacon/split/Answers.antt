use Rattle.std.proofs.Common.{rules}
use Rattle.beacon.proofs.SplitLemmas.{splits}
use Rattle.beacon.proofs.beacon.Beacon.split.Goals as goal

pub split_seat-requires : goal.split_seat-requires
split_seat-requires c = (search rules, search rules, splits _ _ (search rules) c.seat.invariant.1)
