use Rattle.std.proofs.Common.{◌≡◌, ℕ, List, length, ap, subst, arith}
use Rattle.instance_regions.proofs.ColumnLemmas.{AreBare, bare_columns}
use Rattle.instance_regions.proofs.columns.bare_columns.Goals as goal

pub returns-clause-columns : goal.returns-clause-columns
returns-clause-columns c =
    let all : c.loop-cell.cell ≡ length c.args.instance.now.cells = omega (
      arith,
      c.loop-cell-test.false,
      c.loop-cell.auto.cell-end,
      c.count_of-cells.ensures.count,
      ap (λ (l : List ℕ). length l) c.cells.ensures.cells,
    ) in
    bare_columns c.args.instance.now c.loop-cell.columns.items
    (subst (λ (h : ℕ). AreBare h (length c.args.instance.now.cells) c.loop-cell.columns.items)
    c.height-height.ensures.exact
    (subst (λ (n : ℕ). AreBare c.height-height.result n c.loop-cell.columns.items) all c.loop-cell.invariant))
