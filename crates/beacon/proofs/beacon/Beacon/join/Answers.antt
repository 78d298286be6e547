use Rattle.std.proofs.Common.{rules}
use Rattle.beacon.proofs.SplitLemmas.{joins}
use Rattle.beacon.proofs.beacon.Beacon.join.Goals as goal

pub join_seat-requires : goal.join_seat-requires
join_seat-requires c = (
  search rules,
  search rules,
  search rules,
  search rules,
  joins _ _ _ _ (search rules) c.seat.invariant.1 c.other.invariant.1,
)
