use Rattle.std.proofs.Common.{slice_index, refl}
use Rattle.set_cover.proofs.OrderLemmas.{element_of}
use Rattle.tree_judges.proofs.thinning.rows_at.Goals as goal

pub row_at-requires : goal.row_at-requires
row_at-requires c =
    let kept = c.args.kept.now in
    let index = c.loop-index.index-index in
    let has = element_of kept (slice_index kept index) index c.loop-index-test.true refl in
    record { inside = c.requires.of_it (slice_index kept index) has }
