use Rattle.std.proofs.Common.{◌≤◌, length, drop}
use Rattle.scan_core.proofs.SeenLemmas.{AreSeen}
use Rattle.scan_core.proofs.property.last_texts.Given as goal

abbrev pub invariant-loop-index : goal.invariant-loop-index
invariant-loop-index l = (l.index ≤ length l.members) × AreSeen (drop l.index l.members) l.props.items l.seen
