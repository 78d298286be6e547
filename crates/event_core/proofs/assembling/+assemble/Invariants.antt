use Rattle.std.proofs.Common.{◌≡◌, ◌≤◌, ◌+◌, ◌++◌, true, take, length, map}
use Rattle.proof_tree.specs.Shape.{tree_of}
use Rattle.event_core.specs.Shape.{shape_size, shapes_size}
use Rattle.event_core.specs.Finished.{are_done, AreWhole}
use Rattle.event_core.specs.NodeShape.{shape_of, shapes_of}
use Rattle.event_core.proofs.AssembleLemmas.{trees_of}
use Rattle.event_core.proofs.assembling.+assemble.Given as goal

abbrev pub decreases-assemble : goal.decreases-assemble
decreases-assemble l = shape_size (shape_of l.node)

abbrev pub invariant-loop-kid : goal.invariant-loop-kid
invariant-loop-kid l = record {
  done : are_done (shapes_of l.kid-iterator.rest.items) ≡ true;
  whole : AreWhole (shapes_of l.kid-iterator.rest.items);
  same : length l.trees.items ≡ length l.initial.trees.items;
  room : l.index + length l.kid-iterator.rest.items ≡ length l.trees.items;
  trees : map tree_of (take l.index l.trees.items) ++ trees_of l.kid-iterator.rest.items ≡ trees_of
      l.initial.kid-iterator.rest.items;
  size : shapes_size (shapes_of l.kid-iterator.rest.items) ≤ shapes_size (shapes_of l.initial.kid-iterator.rest.items);
}
