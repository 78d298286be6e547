use Rattle.std.proofs.lemmas.List.Elements.{All-nil, All-same}
use Rattle.cave_base.specs.Class.{IsSoundClass}
use Rattle.block_rows.specs.Shipped.{shipped_rows}
use Rattle.block_rows.proofs.ShippedLemmas.{shipped_sound}
use Rattle.block_rows.proofs.rows.Rows.shipped.Goals as goal

pub invariant_of-result : goal.invariant_of-result
invariant_of-result c = record {
  user_sound = All-same (λ row. IsSoundClass row.class) c.new.result.items _ c.new.ensures.items
      (All-nil (λ row. IsSoundClass row.class));
  shipped_sound = All-same (λ row. IsSoundClass row.class) c.in_ok-shipped.shipped.items shipped_rows
      c.in_ok-shipped.ensures shipped_sound;
}
