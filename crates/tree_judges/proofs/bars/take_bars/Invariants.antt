use Rattle.std.proofs.Common.{◌≡◌, take}
use Rattle.tree_judges.specs.Bars.{TakesBars}
use Rattle.tree_judges.proofs.bars.take_bars.Given as goal

abbrev pub invariant-loop-bar : goal.invariant-loop-bar
invariant-loop-bar l = TakesBars l.region l.fn.node l.bars.items l.node × (l.bars.items ≡ take l.bar-index l.proposed)
