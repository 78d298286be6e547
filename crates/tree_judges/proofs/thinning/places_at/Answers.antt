use Rattle.std.proofs.Common.{length, slice_index, refl, ap, arith}
use Rattle.set_cover.proofs.OrderLemmas.{element_of}
use Rattle.tree_judges.proofs.thinning.places_at.Goals as goal

pub bounds-all-index : goal.bounds-all-index
bounds-all-index c =
    let kept = c.args.kept.now in
    let index = c.loop-index.index-index in
    let inside = c.requires.of_it (slice_index kept index)
    (element_of kept (slice_index kept index) index c.loop-index-test.true refl) in
    omega (arith, inside, ap length c.places-all.ensures.places)
