use Rattle.std.proofs.Common.{List, ℕ, length, get_or, subst}
use Rattle.weight_judge.specs.declared.claims.Claim.{Claim}
use Rattle.weight_judge.proofs.Branches.{on, off}
use Rattle.node_judges.specs.Loads.{AreTakenOpen, LackOpenRoom, ChangeAt}
use Rattle.node_judges.proofs.LoadLemmas.{places_inside, within_more, rooms_to_more, rooms_to_lack, rooms_to_all}
use Rattle.node_judges.proofs.LoadLemmas.{places_once}
use Rattle.node_judges.proofs.loads.take_all.Goals as goal

pub take_open-requires-clause-inside : goal.take_open-requires-clause-inside
take_open-requires-clause-inside c =
    let none : Claim = record { group = 0; capacity = 0; cell = 0; weight = 0 } in
    places_inside c.args.lists.now (length c.args.rooms.now)
    (get_or c.args.claims.now c.loop-claim.claim-index none).cell c.lit_by.result.now c.requires.places.inside
    c.lit_by.ensures (length c.loop-claim.rooms) c.loop-claim.invariant.within.whole

pub take_open-requires-clause-once : goal.take_open-requires-clause-once
take_open-requires-clause-once c =
    let none : Claim = record { group = 0; capacity = 0; cell = 0; weight = 0 } in
    places_once c.args.lists.now (get_or c.args.claims.now c.loop-claim.claim-index none).cell c.lit_by.result.now
    c.requires.places.ascending c.lit_by.ensures

pub returns-then-not-take_open-clause-kept : goal.returns-then-not-take_open-clause-kept
returns-then-not-take_open-clause-kept c =
    let none : Claim = record { group = 0; capacity = 0; cell = 0; weight = 0 } in
    let claim = get_or c.args.claims.now c.loop-claim.claim-index none in
    rooms_to_lack c.args.lists.now c.args.barred.now.items c.args.claims.now c.requires.places.ascending
    c.requires.claims c.loop-claim.claim-index none c.loop-claim.rooms c.loop-claim-test.true
    c.loop-claim.invariant.rooms
    (subst (λ (l : List ℕ). LackOpenRoom l c.args.barred.now.items claim c.loop-claim.rooms) c.lit_by.ensures
    (off c.take_open.result
    (AreTakenOpen c.lit_by.result.now c.args.barred.now.items claim c.loop-claim.rooms c.take_open.new.rooms)
    (LackOpenRoom c.lit_by.result.now c.args.barred.now.items claim c.loop-claim.rooms)
    c.if-not-take_open.true c.take_open.ensures.taken))

pub returns-then-not-take_open-clause-within : goal.returns-then-not-take_open-clause-within
returns-then-not-take_open-clause-within c =
    let none : Claim = record { group = 0; capacity = 0; cell = 0; weight = 0 } in
    within_more c.args.lists.now c.args.claims.now (length c.args.rooms.now) c.loop-claim.claim-index none
    c.loop-claim.rooms c.take_open.new.rooms c.loop-claim-test.true c.loop-claim.invariant.within
    (subst (λ (l : List ℕ). ChangeAt l c.loop-claim.rooms c.take_open.new.rooms) c.lit_by.ensures
    c.take_open.ensures.change)

pub loop-claim-preserved : goal.loop-claim-preserved
loop-claim-preserved c =
    let none : Claim = record { group = 0; capacity = 0; cell = 0; weight = 0 } in
    let claim = get_or c.args.claims.now c.loop-claim.claim-index none in
    record {
      within = within_more c.args.lists.now c.args.claims.now (length c.args.rooms.now) c.loop-claim.claim-index none
          c.loop-claim.rooms c.take_open.new.rooms c.loop-claim-test.true c.loop-claim.invariant.within
          (subst (λ (l : List ℕ). ChangeAt l c.loop-claim.rooms c.take_open.new.rooms) c.lit_by.ensures
          c.take_open.ensures.change);
      rooms = rooms_to_more c.args.lists.now c.args.barred.now.items c.args.claims.now c.requires.claims
          c.loop-claim.claim-index none c.loop-claim.rooms c.take_open.new.rooms c.loop-claim-test.true
          c.loop-claim.invariant.rooms
          (subst
          (λ (l : List ℕ). AreTakenOpen l c.args.barred.now.items claim c.loop-claim.rooms c.take_open.new.rooms)
          c.lit_by.ensures
          (on c.take_open.result
          (AreTakenOpen c.lit_by.result.now c.args.barred.now.items claim c.loop-claim.rooms c.take_open.new.rooms)
          (LackOpenRoom c.lit_by.result.now c.args.barred.now.items claim c.loop-claim.rooms)
          c.if-not-take_open.false c.take_open.ensures.taken));
    }

pub returns-clause-kept : goal.returns-clause-kept
returns-clause-kept c = rooms_to_all c.args.lists.now c.args.barred.now.items c.args.claims.now
    c.requires.places.ascending c.requires.claims c.loop-claim.claim-index c.loop-claim.rooms c.loop-claim-test.false
    c.loop-claim.invariant.rooms
