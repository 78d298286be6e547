use Rattle.std.proofs.Common.{length}
use Rattle.gathering.proofs.opening.+longest.Given as goal

abbrev pub decreases-longest : goal.decreases-longest
decreases-longest l = length l.works.now
