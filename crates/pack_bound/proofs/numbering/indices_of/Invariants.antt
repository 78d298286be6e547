use Rattle.std.proofs.Common.{take}
use Rattle.pack_bound.specs.Naming.{AreIndicesOf}
use Rattle.pack_bound.proofs.numbering.indices_of.Given as goal

abbrev pub invariant-loop-place : goal.invariant-loop-place
invariant-loop-place l = AreIndicesOf l.region (take l.place-index l.places) l.indices.items
