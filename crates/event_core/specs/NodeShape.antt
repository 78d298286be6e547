-- The shape that a node is.
use Rattle.std.specs.Prelude.{List, [], ◌∷◌, length}
use Rattle.proof_tree.specs.Shape.{tree_of}
use Rattle.event_core.specs.Shape.{Shape, Shapes, at_rest, in_hand, settled, parted, no_shape, one_shape}
use Rattle.event_core.specs.declared.node.PieceNode.{PieceNode}
use Rattle.event_core.specs.declared.node.PieceNode.TheVariants.{Waiting, Held, Closed, Opened}

-- the shape that a node of the code stands for
abbrev pub shape_of : PieceNode → Shape
shape_of Waiting = at_rest
shape_of (Held worker) = in_hand worker
shape_of (Closed floor proof) = settled floor (tree_of proof)
shape_of (Opened bars on places kids trees boxes) =
    parted (record { bars = bars; on = on }) places (length trees.items) (length boxes.items) kids

-- the shapes of the nodes, in their order
abbrev pub shapes_of : List PieceNode → Shapes
shapes_of [] = no_shape
shapes_of (n ∷ ns) = one_shape (shape_of n) (shapes_of ns)
