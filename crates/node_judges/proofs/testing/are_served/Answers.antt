use Rattle.std.proofs.Common.{sym, refl, slice_index}
use Rattle.std.proofs.lemmas.Bool.{true≢false}
use Rattle.node_judges.specs.Settings.{left_in}
use Rattle.node_judges.specs.Tests.{IsServed}
use Rattle.node_judges.proofs.TestLemmas.{each_more, each_element, element_of, off_true}
use Rattle.node_judges.proofs.testing.are_served.Goals as goal

pub returns-then-not-is_served : goal.returns-then-not-is_served
returns-then-not-is_served c = (
  λ t. absurd (true≢false (sym t)),
  λ all. absurd (off_true c.is_served.result c.if-not-is_served.true
      (c.is_served.ensures.1 (all (slice_index c.args.cells.now c.loop-cell.cell-index)
      (element_of c.args.cells.now c.loop-cell.cell-index c.loop-cell-test.true)))),
)

pub loop-cell-preserved : goal.loop-cell-preserved
loop-cell-preserved c = each_more (IsServed c.args.setting.now.lists.now
    (left_in c.args.setting.now) c.args.setting.now.chosen.now.items c.args.by)
    c.args.cells.now c.loop-cell.cell-index c.loop-cell.invariant
    (c.is_served.ensures.0 c.if-not-is_served.false)

pub returns : goal.returns
returns c = (
  λ t. each_element (IsServed c.args.setting.now.lists.now (left_in c.args.setting.now)
      c.args.setting.now.chosen.now.items c.args.by)
      c.args.cells.now c.loop-cell.cell-index c.loop-cell-test.false c.loop-cell.invariant,
  λ all. refl,
)
