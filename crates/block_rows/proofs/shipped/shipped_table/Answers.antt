use Rattle.block_rows.specs.Shipped.{shipped_rows}
use Rattle.block_rows.proofs.shipped.shipped_table.Goals as goal

pub returns : goal.returns
unfolding shipped_rows
returns c = c.rows_of_lines.ensures
