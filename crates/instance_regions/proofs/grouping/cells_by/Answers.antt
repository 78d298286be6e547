use Rattle.std.proofs.Common.{refl, sym, length, arith}
use Rattle.instance_regions.specs.Grouping.{IsCellOf}
use Rattle.set_cover.proofs.BucketLemmas.{grouping_push, grouping_all}
use Rattle.instance_regions.proofs.grouping.cells_by.Goals as goal

pub loop-cell-preserved : goal.loop-cell-preserved
loop-cell-preserved c =
    grouping_push (IsCellOf c.args.labels.now) (length c.args.labels.now) c.loop-cell.cell _
    c.loop-cell.buckets c.push.new.self
    (record { inside = c.loop-cell-test.true; there = refl })
    (λ other is. sym is.there) c.in_ok-push.ensures c.loop-cell.invariant

pub returns : goal.returns
returns c = grouping_all (IsCellOf c.args.labels.now) (length c.args.labels.now) c.loop-cell.cell c.loop-cell.buckets
    (λ key i is. (let inside = is.inside in omega arith)) c.loop-cell.invariant
