use Rattle.std.proofs.Common.{length}
use Rattle.event_core.proofs.putting.+put.Given as goal

abbrev pub decreases-put : goal.decreases-put
decreases-put l = length l.name.now
