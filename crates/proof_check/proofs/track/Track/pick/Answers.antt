use Rattle.std.proofs.Common.{length, refl}
use Rattle.std.specs.Prelude.{true}
use Rattle.proof_check.proofs.TrackLemmas.{picked_first}
use Rattle.proof_check.proofs.track.Track.pick.Goals as goal

pub returns-clause-picks : goal.returns-clause-picks
returns-clause-picks c = picked_first (length c.args.self.now.chosen.counts) c.args.place
    c.args.self.now.chosen.items c.args.self.now.barred.items c.args.self.now.omitted.items
    c.args.self.now.frames.items
    (record { places = c.in_ok-places.places; index = 0; bars = c.len.result; omits = c.len-2.result; is_pick = true })
    c.push.new.self.items c.push-2.new.self.items c.in_ok-push.ensures.items c.in_ok-push-2.ensures.items
    c.in_ok-places.ensures.items refl c.len.ensures c.len-2.ensures refl
