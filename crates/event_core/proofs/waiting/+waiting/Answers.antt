use Rattle.std.proofs.Common.{ap, arith}
use Rattle.event_core.specs.declared.node.PieceNode.{PieceNode}
use Rattle.event_core.specs.Shape.{shape_size}
use Rattle.event_core.specs.NodeShape.{shape_of}
use Rattle.event_core.proofs.NodeLemmas.{kid_smaller}
use Rattle.event_core.proofs.waiting.+waiting.Goals as goal

pub add_below-add_names-requires : goal.add_below-add_names-requires
add_below-add_names-requires t c =
    let below = kid_smaller c.args.kids.now c.loop-index.index c.index-kids-index.result c.loop-index-test.true in
    let same = ap (λ (n : PieceNode). shape_size (shape_of n)) c.index-kids-index.is in
    (omega (arith, below, same, c.decreases), tt)
