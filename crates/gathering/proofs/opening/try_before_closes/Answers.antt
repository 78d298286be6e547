use Rattle.std.proofs.Common.{◌+◌, ◌++◌}
use Rattle.schedule_law.specs.Joined.{all_opened}
use Rattle.schedule_law.specs.Listing.{longest_name, offers, looks}
use Rattle.event_core.specs.Kept.{state_of}
use Rattle.gathering.specs.Playing.{tries_below}
use Rattle.gathering.proofs.PlayLemmas.{plays_append}
use Rattle.gathering.proofs.opening.try_before_closes.Goals as goal

pub returns : goal.returns
returns c =
    let works = c.args.works.now in
    let tried = tries_below (longest_name (all_opened works) + 1) works in
    let s0 = state_of c.args.core.now in let s1 = state_of c.open_in_turn.new.core in
    let s2 = state_of c.offer_all.new.core in let s3 = state_of c.look_all.new.core in
    let offered = plays_append s0 tried (offers 0 works) s1 s2 c.in_ok-open_in_turn.ensures
    c.in_ok-offer_all.ensures in
    plays_append s0 (tried ++ offers 0 works) (looks 0 works) s2 s3 offered c.in_ok-look_all.ensures
