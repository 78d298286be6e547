use Rattle.std.proofs.Common.{◌≡◌, drop}
use Rattle.event_core.specs.Shape.{shape_size, shapes_size}
use Rattle.event_core.specs.Finished.{are_done}
use Rattle.event_core.specs.NodeShape.{shape_of, shapes_of}
use Rattle.event_core.proofs.assembling.+done.Given as goal

abbrev pub decreases-is_done : goal.decreases-is_done
decreases-is_done l = shape_size (shape_of l.node.now)

abbrev pub decreases-are_done : goal.decreases-are_done
decreases-are_done l = shapes_size (shapes_of l.nodes.now)

-- those before the index are done
abbrev pub invariant-are_done-loop-node : goal.invariant-are_done-loop-node
invariant-are_done-loop-node l = are_done (shapes_of (drop l.node-index l.nodes)) ≡ are_done (shapes_of l.nodes)
