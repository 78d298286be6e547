use Rattle.std.proofs.Common.{length}
use Rattle.search_pool.proofs.run.+are_from.Given as goal

abbrev pub decreases-are_from : goal.decreases-are_from
decreases-are_from g l = length l.results.now
