use Rattle.std.proofs.Common.{◌≡◌}
use Rattle.std.specs.Prelude.{is_some}
use Rattle.toml.specs.View.{members_view}
use Rattle.block_rows.specs.Columns as columns
use Rattle.block_rows.proofs.columns.are_texts.Given as goal

abbrev pub invariant-loop-property : goal.invariant-loop-property
invariant-loop-property l = is_some (columns.texts_of (members_view l.property-iterator))
    ≡ is_some (columns.texts_of (members_view l.asked.entries))
