use Rattle.std.proofs.Common.{◌≡◌, ◌<◌, ◌++◌, length, take, All}
use Rattle.node_judges.specs.Settings.{left_in}
use Rattle.node_judges.specs.Weighed.{cells_claimed, AreFreeOnce}
use Rattle.node_judges.proofs.weighted.are_free_once.Given as goal

abbrev pub invariant-loop-claim : goal.invariant-loop-claim
invariant-loop-claim l = record {
  whole : length l.seen.counts ≡ length l.fn.seen.counts;
  seen : l.seen.items ≡ l.initial.seen.items ++ cells_claimed (take l.claim-index l.claims);
  once : AreFreeOnce l.setting.lists.now (left_in l.setting) l.setting.chosen.now.items
      (cells_claimed (take l.claim-index l.claims));
  below : All (λ cell. cell < length l.fn.seen.counts) (cells_claimed (take l.claim-index l.claims));
}
