use Rattle.std.proofs.Common.{◌≡◌, ◌++◌, List, ℕ, length, slice_index, Contains, refl, subst, ap, ◌∙◌, arith}
use Rattle.lit_lists.specs.Lists.{row_at}
use Rattle.node_judges.specs.Tests.{AreLitBy}
use Rattle.node_judges.proofs.LitLemmas.{lit_none, lit_more, lit_all}
use Rattle.node_judges.proofs.testing.mark_lit.Goals as goal

pub loop-place-init : goal.loop-place-init
loop-place-init c = record {
  whole = refl;
  lit = lit_none c.args.lists.now c.args.tally.now.items c.requires.none;
}

pub loop-place-preserved : goal.loop-place-preserved
loop-place-preserved c =
    let place = slice_index c.items-places.result.now c.loop-place.place-index in
    let e = c.in_ok-mark.ensures.marked
    (λ cell has. (let lt = c.requires.matched.below place cell
    (subst (λ (l : List ℕ). Contains l cell) c.lights.ensures has) in
    omega (arith, c.loop-place.invariant.whole))) in
    let f : c.mark.new.tally.items ≡ c.loop-place.tally.items ++ row_at c.args.lists.now.pairs.lights place = e
    ∙ ap (λ (l : List ℕ). c.loop-place.tally.items ++ l) c.lights.ensures in
    record {
      whole = c.in_ok-mark.ensures.whole ∙ c.loop-place.invariant.whole;
      lit = rw f (lit_more c.args.lists.now (length c.args.tally.now.counts) c.requires.matched
          c.items-places.result.now c.loop-place.place-index c.loop-place.tally.items c.loop-place-test.true
          c.loop-place.invariant.lit);
    }

pub returns-clause-lit : goal.returns-clause-lit
returns-clause-lit c = subst (λ (l : List ℕ). AreLitBy c.args.lists.now l c.loop-place.tally.items)
    c.items-places.ensures
    (lit_all c.args.lists.now c.items-places.result.now c.loop-place.place-index c.loop-place.tally.items
    c.loop-place-test.false c.loop-place.invariant.lit)
