use Rattle.std.proofs.Common.{length}
use Rattle.torch_plan.proofs.memory.+bytes_of.Given as goal

abbrev pub decreases-bytes_of : goal.decreases-bytes_of
decreases-bytes_of l = length l.files.now
