use Rattle.std.proofs.Common.{refl, sym, ap, ◌∙◌}
use Rattle.event_core.specs.NodeShape.{shapes_of}
use Rattle.event_core.specs.declared.node.PieceNode.TheVariants.{Waiting}
use Rattle.event_core.proofs.NodeLemmas.{added, nodes_push, rest_push}
use Rattle.event_core.proofs.opening.waiting.Goals as goal

pub loop-index-preserved : goal.loop-index-preserved
loop-index-preserved c =
    ap shapes_of c.in_ok-push.ensures.items ∙ nodes_push c.loop-index.nodes.items Waiting refl
    ∙ ap added c.loop-index.invariant ∙ sym (rest_push c.loop-index.index)
