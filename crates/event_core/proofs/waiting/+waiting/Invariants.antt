use Rattle.std.proofs.Common.{◌≡◌, ◌++◌, drop}
use Rattle.event_core.specs.Shape.{shape_size, shapes_size}
use Rattle.event_core.specs.NodeShape.{shape_of, shapes_of}
use Rattle.event_core.specs.WaitingNames.{waiting_below}
use Rattle.event_core.proofs.waiting.+waiting.Given as goal

abbrev pub decreases-add_names : goal.decreases-add_names
decreases-add_names l = shape_size (shape_of l.node.now)

abbrev pub decreases-add_below : goal.decreases-add_below
decreases-add_below l = shapes_size (shapes_of l.kids.now)

-- with those from the index on they are all
abbrev pub invariant-add_below-loop-index : goal.invariant-add_below-loop-index
invariant-add_below-loop-index l =
    l.all.items ++ waiting_below l.name l.index (shapes_of (drop l.index l.kids))
    ≡ l.fn.names.items ++ waiting_below l.name 0 (shapes_of l.kids)
