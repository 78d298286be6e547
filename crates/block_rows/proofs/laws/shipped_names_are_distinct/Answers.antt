use Rattle.block_rows.proofs.ShippedLemmas.{shipped_distinct}
use Rattle.block_rows.proofs.laws.shipped_names_are_distinct.Goals as goal

pub returns : goal.returns
returns c = shipped_distinct
