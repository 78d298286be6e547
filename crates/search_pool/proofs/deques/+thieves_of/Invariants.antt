use Rattle.std.proofs.Common.{length}
use Rattle.search_pool.proofs.deques.+thieves_of.Given as goal

abbrev pub decreases-thieves_of : goal.decreases-thieves_of
decreases-thieves_of l = length l.owners.now
