use Rattle.std.specs.Arc.{arc_value}
use Rattle.event_core.specs.Kept.{state_of}
use Rattle.gathering.proofs.GatherLemmas.{played}
use Rattle.gathering.proofs.merge.play.Goals as goal

pub returns : goal.returns
returns c = played (arc_value c.args.region.now) (arc_value c.in_ok-try_clone.field-0) c.args.first.places c.args.aim
    c.args.works.items c.deref.result.now c.in_ok-closed_by.closed_by.items c.args.caller (state_of c.in_ok-core.core)
    (state_of c.try_before_closes.new.core) (state_of c.close_all.new.core) c.in_ok-try_clone.ensures
    c.requires.count.0 c.deref.ensures.value c.in_ok-core.ensures c.in_ok-try_before_closes.ensures
    c.in_ok-closed_by.ensures
