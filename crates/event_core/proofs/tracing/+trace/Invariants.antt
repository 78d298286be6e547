use Rattle.std.proofs.Common.{length}
use Rattle.event_core.proofs.tracing.+trace.Given as goal

abbrev pub decreases-trace : goal.decreases-trace
decreases-trace l = length l.name.now
