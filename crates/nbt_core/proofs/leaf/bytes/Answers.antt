use Rattle.std.proofs.Common.{arith}
use Rattle.nbt_core.proofs.Numbers.{numbers_in-each}
use Rattle.nbt_core.proofs.leaf.bytes.Goals as goal

pub returns : goal.returns
returns c = numbers_in-each c.args.count c.args.run.now _ c.loop-byte.byte-index c.requires
    (omega arith) c.loop-byte.invariant
