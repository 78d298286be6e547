use Rattle.std.proofs.Common.{arith}
use Rattle.std.specs.Int.{w64}
use Rattle.nbt_core.proofs.Numbers.{numbers_in-written}
use Rattle.nbt_core.proofs.leaf.longs.Goals as goal

pub returns : goal.returns
returns c = numbers_in-written w64 8 c.args.count c.args.run.now c.read_i64_into.new.dst _ _ (omega arith)
    (omega (arith, c.in_ok-numbers.ensures.len)) c.read_i64_into.ensures
