use Rattle.std.proofs.Common.{◌≡◌, take, map}
use Rattle.std.specs.Int.{w8, cast_signed}
use Rattle.nbt_core.proofs.leaf.bytes.Given as goal

abbrev pub invariant-loop-byte : goal.invariant-loop-byte
invariant-loop-byte l = l.numbers.items ≡ map (cast_signed w8) (take l.byte-index l.run)
