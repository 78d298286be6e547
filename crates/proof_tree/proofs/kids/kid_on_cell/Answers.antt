use Rattle.std.proofs.Common.{ℕ, Contains, arith, sym, subst}
use Rattle.std.specs.Prelude.{take}
use Rattle.std.proofs.lemmas.List.Elements.{Contains-get_or}
use Rattle.set_cover.proofs.OrderLemmas.{index_below}
use Rattle.proof_rules.proofs.ListLemmas.{all_members}
use Rattle.proof_tree.proofs.KidLemmas.{all_of_one, one_distinct, in_all}
use Rattle.proof_tree.proofs.kids.kid_on_cell.Goals as goal

pub overflow_cast-number : goal.overflow_cast-number
overflow_cast-number c =
    let low = index_below c.args.places.now c.args.number c.requires.new.ascending c.requires.inside in
    omega (arith, low, c.requires.place, c.ranges.place.fits)

pub one_kid-requires-clause-new : goal.one_kid-requires-clause-new
one_kid-requires-clause-new c =
    let there = subst (Contains c.args.places.now) (sym c.requires.place)
    (Contains-get_or c.args.places.now c.args.number 0 c.requires.inside) in (
      one_distinct c.args.place,
      all_of_one (λ (p : ℕ). ¬ Contains c.args.piece.now.chosen p) c.args.place (c.requires.new.new c.args.place there),
    )

pub one_kid-requires-clause-chosen : goal.one_kid-requires-clause-chosen
one_kid-requires-clause-chosen c =
    let there = subst (Contains c.args.places.now) (sym c.requires.place)
    (Contains-get_or c.args.places.now c.args.number 0 c.requires.inside) in
    all_of_one (Contains c.args.piece.now.region.places) c.args.place (c.requires.new.of_it c.args.place there)

pub one_kid-requires-clause-barred : goal.one_kid-requires-clause-barred
one_kid-requires-clause-barred c = all_members (Contains c.args.piece.now.region.places)
    (take c.args.number c.args.places.now)
    (λ y h. c.requires.new.of_it y (in_all c.args.number c.args.places.now y h))
