use Rattle.set_cover.proofs.NumberLemmas.{numbering_next}
use Rattle.set_cover.proofs.numbering.number.Goals as goal

pub loop-index-preserved : goal.loop-index-preserved
loop-index-preserved c =
    numbering_next c.args.indices.now c.args.cells.now c.loop-index.indices c.loop-index.index c.requires.ascending
    c.loop-index-test.true (c.requires.inside c.loop-index.index 0 c.loop-index-test.true) c.loop-index.invariant
