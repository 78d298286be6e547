use Rattle.std.proofs.Common.{◌≡◌, map}
use Rattle.toml.specs.View.{members_view}
use Rattle.block_rows.specs.Columns as columns
use Rattle.block_rows.proofs.columns.has_only.Given as goal

abbrev pub invariant-loop-key : goal.invariant-loop-key
invariant-loop-key l = columns.has_only (map (λ known. known.now) l.keys)
    (members_view l.key-iterator) ≡ columns.has_only (map (λ known. known.now) l.keys) (members_view l.table.entries)
