use Rattle.std.proofs.Common.{◌≡◌, ◌++◌, drop}
use Rattle.toml.specs.View.{items_view}
use Rattle.block_rows.specs.UserTable.{rows_of}
use Rattle.block_rows.proofs.user.user_rows.Given as goal

abbrev pub invariant-loop-element : goal.invariant-loop-element
invariant-loop-element l = l.rows.items ++ rows_of (items_view (drop l.element-index l.elements)) ≡ rows_of
    (items_view l.elements)
