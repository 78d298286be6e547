use Rattle.std.proofs.Common.{◌≡◌, drop}
use Rattle.toml.specs.View.{items_view}
use Rattle.block_rows.specs.Judging.{rows_fault}
use Rattle.block_rows.proofs.judging.rows_fault.Given as goal

abbrev pub invariant-loop-index : goal.invariant-loop-index
invariant-loop-index l = rows_fault l.index (items_view (drop l.index l.elements)) ≡ rows_fault 0
    (items_view l.elements)
