use Rattle.std.proofs.Common.{◌<◌, ℕ, length, Contains, refl}
use Rattle.node_judges.specs.Settings.{left_in}
use Rattle.node_judges.proofs.TestLemmas.{off_true, all_more, all_taken}
use Rattle.node_judges.proofs.testing.are_left.Goals as goal

pub returns-then-not-is_left-clause-left : goal.returns-then-not-is_left-clause-left
returns-then-not-is_left-clause-left c = (
  λ t. absurd cc,
  λ all. absurd (off_true c.is_left.result c.if-not-is_left.true
      (c.is_left.ensures.left.1 (all c.loop-cell.cell-index 0 c.loop-cell-test.true))),
)

pub loop-cell-preserved : goal.loop-cell-preserved
loop-cell-preserved c = record {
  left = all_more (Contains (left_in c.args.setting.now)) c.args.cells.now
      c.loop-cell.cell-index c.loop-cell-test.true c.loop-cell.invariant.left
      (c.is_left.ensures.left.0 c.if-not-is_left.false);
  inside = all_more (λ (cell : ℕ). cell < length c.args.setting.now.region.now.counts) c.args.cells.now
      c.loop-cell.cell-index c.loop-cell-test.true c.loop-cell.invariant.inside
      (c.is_left.ensures.inside c.if-not-is_left.false);
}

pub returns : goal.returns
returns c = record {
  left = (
    λ t. all_taken (Contains (left_in c.args.setting.now)) c.args.cells.now
        c.loop-cell.cell-index c.loop-cell-test.false c.loop-cell.invariant.left,
    λ all. refl,
  );
  inside = λ t. all_taken (λ (cell : ℕ). cell < length c.args.setting.now.region.now.counts) c.args.cells.now
      c.loop-cell.cell-index c.loop-cell-test.false c.loop-cell.invariant.inside;
}
