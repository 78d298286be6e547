use Rattle.node_judges.proofs.LoadLemmas.{cleared_more}
use Rattle.node_judges.proofs.loads.clear_places.Goals as goal

pub loop-place-preserved : goal.loop-place-preserved
loop-place-preserved c = cleared_more c.args.places.now c.loop-place.place-index c.args.rooms.now c.loop-place.rooms
    c.clear.new.self c.loop-place-test.true c.loop-place.invariant c.clear.ensures
