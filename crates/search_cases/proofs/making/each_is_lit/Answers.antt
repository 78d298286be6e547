use Rattle.std.proofs.Common.{below_more}
use Rattle.search_cases.specs.Made.{IsLitIn}
use Rattle.search_cases.proofs.making.each_is_lit.Goals as goal

pub loop-bit-preserved : goal.loop-bit-preserved
loop-bit-preserved c =
    below_more (IsLitIn c.args.rows.now) c.loop-bit.bit c.loop-bit.invariant
    (c.is_lit.ensures c.if-not-is_lit.false)
