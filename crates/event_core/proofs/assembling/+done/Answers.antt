use Rattle.std.proofs.Common.{ap, arith}
use Rattle.event_core.specs.declared.node.PieceNode.{PieceNode}
use Rattle.event_core.specs.Shape.{shape_size}
use Rattle.event_core.specs.NodeShape.{shape_of}
use Rattle.event_core.proofs.NodeLemmas.{kid_smaller}
use Rattle.event_core.proofs.assembling.+done.Goals as goal

pub are_done-is_done-requires : goal.are_done-is_done-requires
are_done-is_done-requires t c =
    let same = ap (λ (n : PieceNode). shape_size (shape_of n)) c.node-item.is in
    let below = kid_smaller c.args.nodes.now c.loop-node.node-index c.node-item.result c.loop-node-test.true in
    (omega (arith, below, same, c.decreases), tt)
