use Rattle.std.proofs.Common.{◌+◌, drop, ap}
use Rattle.event_core.specs.Kept.{state_of}
use Rattle.gathering.specs.Playing.{tries_one, tries_as_long}
use Rattle.gathering.proofs.PlayLemmas.{leads_start, leads_next, leads_end, drop_at, drop_end}
use Rattle.gathering.proofs.opening.open_each.Goals as goal

pub loop-split-init : goal.loop-split-init
loop-split-init c = leads_start (state_of c.args.core.now) (tries_as_long c.args.size c.args.worker c.args.splits.now)

pub loop-split-preserved : goal.loop-split-preserved
loop-split-preserved c =
    let splits = c.args.splits.now in let i = c.loop-split.split-index in let w = c.args.worker in
    let size = c.args.size in
    leads_next (state_of c.args.core.now) (tries_as_long size w splits) (state_of c.loop-split.core)
    (tries_as_long size w (drop i splits))
    (tries_one size w c.split-item.result) (tries_as_long size w (drop (i + 1) splits))
    (state_of c.open_one.new.core) c.loop-split.invariant
    (ap (tries_as_long size w) (drop_at splits i c.split-item.result c.loop-split-test.true c.split-item.is))
    c.in_ok-open_one.ensures

pub returns : goal.returns
returns c =
    let splits = c.args.splits.now in let i = c.loop-split.split-index in let w = c.args.worker in
    let size = c.args.size in
    leads_end (state_of c.args.core.now) (tries_as_long size w splits) (state_of c.loop-split.core)
    (tries_as_long size w (drop i splits)) c.loop-split.invariant
    (ap (tries_as_long size w) (drop_end splits i c.loop-split-test.false))
