use Rattle.std.proofs.Common.{ℕ, List, get_or, refl, subst, ◌∙◌, arith}
use Rattle.weight_judge.specs.declared.claims.Claim.{Claim}
use Rattle.weight_judge.specs.Rooms.{AreTaken, LackRoom}
use Rattle.weight_judge.proofs.Branches.{on, off}
use Rattle.weight_judge.proofs.HeldLemmas.{rooms_more, rooms_lack, rooms_all}
use Rattle.weight_judge.proofs.judge.take_all.Goals as goal

pub returns-then-not-take_places : goal.returns-then-not-take_places
returns-then-not-take_places c =
    let none : Claim = record { group = 0; capacity = 0; cell = 0; weight = 0 } in
    let claim = get_or c.args.claims.now c.loop-index.index none in
    let lacks = off c.take_places.result
    (AreTaken c.list-places.result.now claim c.loop-index.rooms c.take_places.new.rooms)
    (LackRoom claim c.list-places.result.now c.loop-index.rooms) c.if-not-take_places.true c.take_places.ensures in (
      λ f. absurd cc,
      λ all. absurd (rooms_lack c.args.claims.now c.args.lists.now c.requires.whole c.requires.claims
          c.loop-index.index none c.loop-index.rooms c.loop-index-test.true c.loop-index.invariant.rooms
          (subst (λ (l : List ℕ). LackRoom claim l c.loop-index.rooms) c.list-places.ensures lacks) all),
    )

pub loop-index-preserved : goal.loop-index-preserved
loop-index-preserved c =
    let none : Claim = record { group = 0; capacity = 0; cell = 0; weight = 0 } in
    let claim = get_or c.args.claims.now c.loop-index.index none in
    let taken = on c.take_places.result
    (AreTaken c.list-places.result.now claim c.loop-index.rooms c.take_places.new.rooms)
    (LackRoom claim c.list-places.result.now c.loop-index.rooms) c.if-not-take_places.false c.take_places.ensures in
    record {
      whole = taken.whole ∙ c.loop-index.invariant.whole;
      rooms = rooms_more c.args.claims.now c.args.lists.now c.requires.whole c.requires.claims c.loop-index.index none
          c.loop-index.rooms c.take_places.new.rooms c.loop-index-test.true c.loop-index.invariant.rooms
          (subst (λ (l : List ℕ). AreTaken l claim c.loop-index.rooms c.take_places.new.rooms) c.list-places.ensures
          taken);
    }

pub returns : goal.returns
returns c = (
  λ t. rooms_all c.args.claims.now c.args.lists.now c.requires.whole c.requires.claims c.loop-index.index
      c.loop-index.rooms (omega (arith, c.loop-index-test.false)) c.loop-index.invariant.rooms,
  λ t. refl,
)
