use Rattle.std.proofs.Common.{length}
use Rattle.instance_regions.specs.Grouping.{IsPlaceOfLabel}
use Rattle.set_cover.proofs.BucketLemmas.{Grouping}
use Rattle.instance_regions.proofs.grouping.places_by.Given as goal

abbrev pub invariant-loop-place : goal.invariant-loop-place
invariant-loop-place l = Grouping (IsPlaceOfLabel l.sparse l.labels) (length l.labels) l.place l.buckets
