use Rattle.std.proofs.Common.{List, ℕ, length, get_or, subst}
use Rattle.weight_judge.specs.declared.claims.Claim.{Claim}
use Rattle.node_judges.specs.Loads.{AreCleared}
use Rattle.node_judges.proofs.LoadLemmas.{places_inside, within_more, cleared_to_more, cleared_to_all}
use Rattle.node_judges.proofs.loads.clear_all.Goals as goal

pub clear_places-requires : goal.clear_places-requires
clear_places-requires c =
    let none : Claim = record { group = 0; capacity = 0; cell = 0; weight = 0 } in
    record {
      inside = places_inside c.args.lists.now (length c.args.rooms.now)
          (get_or c.args.claims.now c.loop-claim.claim-index none).cell c.lit_by.result.now c.requires.inside
          c.lit_by.ensures (length c.loop-claim.rooms) c.loop-claim.invariant.within.whole;
    }

pub loop-claim-preserved : goal.loop-claim-preserved
loop-claim-preserved c =
    let none : Claim = record { group = 0; capacity = 0; cell = 0; weight = 0 } in
    let cleared = subst (λ (l : List ℕ). AreCleared l c.loop-claim.rooms c.clear_places.new.rooms) c.lit_by.ensures
    c.clear_places.ensures in
    record {
      within = within_more c.args.lists.now c.args.claims.now (length c.args.rooms.now) c.loop-claim.claim-index none
          c.loop-claim.rooms c.clear_places.new.rooms c.loop-claim-test.true c.loop-claim.invariant.within
          cleared.change;
      cleared = cleared_to_more c.args.lists.now c.args.claims.now c.loop-claim.claim-index none c.loop-claim.rooms
          c.clear_places.new.rooms c.loop-claim-test.true c.loop-claim.invariant.cleared cleared;
    }

pub returns : goal.returns
returns c = cleared_to_all c.args.lists.now c.args.claims.now (length c.args.rooms.now) c.loop-claim.claim-index
    c.loop-claim.rooms c.loop-claim-test.false c.loop-claim.invariant.within c.loop-claim.invariant.cleared
