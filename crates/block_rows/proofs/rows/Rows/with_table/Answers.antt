use Rattle.std.proofs.lemmas.List.Elements.{All-same}
use Rattle.toml.specs.View.{table_view}
use Rattle.cave_base.specs.Class.{IsSoundClass}
use Rattle.block_rows.specs.Shipped.{shipped_rows}
use Rattle.block_rows.specs.UserTable.{elements_of, rows_of}
use Rattle.block_rows.proofs.ShippedLemmas.{shipped_sound}
use Rattle.block_rows.proofs.UserLemmas.{user_sound}
use Rattle.block_rows.proofs.rows.Rows.with_table.Goals as goal

pub invariant_of-result : goal.invariant_of-result
invariant_of-result c =
    let document = table_view c.in_ok-document.document in
    let user = c.in_ok-user.ensures.found in
    record {
      user_sound = All-same (λ row. IsSoundClass row.class) c.in_ok-user.user.items (rows_of (elements_of document))
          user.told (user_sound document c.in_ok-user.user.items user);
      shipped_sound = All-same (λ row. IsSoundClass row.class) c.in_ok-shipped.shipped.items shipped_rows
          c.in_ok-shipped.ensures shipped_sound;
    }
