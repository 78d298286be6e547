use Rattle.std.specs.Prelude.{◌≡◌}
use Rattle.event_core.specs.Finished.{all_at_rest}
use Rattle.event_core.specs.NodeShape.{shapes_of}
use Rattle.event_core.proofs.opening.waiting.Given as goal

abbrev pub invariant-loop-index : goal.invariant-loop-index
invariant-loop-index l = shapes_of l.nodes.items ≡ all_at_rest l.index
