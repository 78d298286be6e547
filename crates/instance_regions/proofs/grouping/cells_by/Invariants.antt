use Rattle.std.proofs.Common.{length}
use Rattle.instance_regions.specs.Grouping.{IsCellOf}
use Rattle.set_cover.proofs.BucketLemmas.{Grouping}
use Rattle.instance_regions.proofs.grouping.cells_by.Given as goal

abbrev pub invariant-loop-cell : goal.invariant-loop-cell
invariant-loop-cell l = Grouping (IsCellOf l.labels) (length l.labels) l.cell l.buckets
