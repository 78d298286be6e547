use Rattle.std.proofs.Common.{ℕ, ◌<◌, slice_index}
use Rattle.node_judges.specs.Settings.{left_in}
use Rattle.node_judges.specs.Tests.{IsServed}
use Rattle.node_judges.proofs.testing.are_served.Given as goal

abbrev pub invariant-loop-cell : goal.invariant-loop-cell
invariant-loop-cell l = (k : ℕ) → k < l.cell-index
    → IsServed l.setting.lists.now (left_in l.setting) l.setting.chosen.now.items l.by (slice_index l.cells k)
