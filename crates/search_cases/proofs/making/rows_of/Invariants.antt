use Rattle.set_cover.specs.Rows.{AreRows}
use Rattle.search_cases.proofs.making.rows_of.Given as goal

abbrev pub invariant-loop-cells : goal.invariant-loop-cells
invariant-loop-cells l = AreRows l.cells-index l.width l.rows.items
