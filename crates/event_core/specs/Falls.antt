-- Each kid is smaller than all kids together.
use Rattle.std.specs.Prelude.{◌≤◌, List, [], ◌∷◌}
use Rattle.std.proofs.Common.{arith, max}
use denote.Param.Weighed.{most}
use Rattle.event_core.specs.declared.node.PieceNode.{PieceNode}
use Rattle.event_core.specs.declared.node.PieceNode.TheVariants.{Waiting, Held, Closed, Opened}
use Rattle.event_core.specs.declared.node.Siblings.TheDeep.{deep-PieceNode}
use Rattle.event_core.specs.NodeShape.{shape_of, shapes_of}
use Rattle.event_core.specs.Shape.{shape_size, shapes_size}

-- a node's measure, as its type has it, is at most the size of its shape
pub shape_falls : (n : PieceNode) → deep-PieceNode n ≤ shape_size (shape_of n)
shape_falls Waiting = omega arith
shape_falls (Held worker) = omega arith
shape_falls (Closed floor proof) = omega arith
shape_falls (Opened bars on places kids trees boxes) = omega arith

-- no node of a list measures more than the size of all their shapes together
pub most_falls : (ns : List PieceNode) → most (λ n. deep-PieceNode n) ns ≤ shapes_size (shapes_of ns)
most_falls [] = omega arith
most_falls (n ∷ ns) = omega (arith, shape_falls n, most_falls ns)

-- nor do the kids of a node, as their type measures them
pub kids_fall : (ns : List PieceNode) → max (most (λ n. deep-PieceNode n) ns) 0 ≤ shapes_size (shapes_of ns)
kids_fall ns = omega (arith, most_falls ns)
