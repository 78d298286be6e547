use Rattle.block_rows.proofs.UserLemmas.{whole}
use Rattle.block_rows.proofs.laws.faultless_rows_are_whole.Goals as goal

pub returns : goal.returns
returns c = whole
