use Rattle.std.proofs.Common.{take}
use Rattle.node_judges.specs.Tests.{AreLeft}
use Rattle.node_judges.proofs.testing.left_of.Given as goal

abbrev pub invariant-loop-place : goal.invariant-loop-place
invariant-loop-place l = AreLeft (take l.place-index l.places) l.barred.items l.left.items
