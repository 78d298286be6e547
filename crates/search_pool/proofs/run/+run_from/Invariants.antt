use Rattle.std.proofs.Common.{length}
use Rattle.search_pool.proofs.run.+run_from.Given as goal

abbrev pub decreases-run_from : goal.decreases-run_from
decreases-run_from g l = length l.team.slots.now
