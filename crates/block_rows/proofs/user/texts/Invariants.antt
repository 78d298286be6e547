use Rattle.std.proofs.Common.{◌≡◌, ◌++◌, option_map}
use Rattle.toml.specs.View.{members_view}
use Rattle.block_rows.specs.Columns.{texts_of}
use Rattle.block_rows.proofs.user.texts.Given as goal

abbrev pub invariant-loop-property : goal.invariant-loop-property
invariant-loop-property l = texts_of (members_view l.asked.entries) ≡ option_map (λ others. l.texts.items ++ others)
    (texts_of (members_view l.property-iterator))
