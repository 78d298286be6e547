use Rattle.block_rows.proofs.TableLemmas.{one_table}
use Rattle.block_rows.proofs.laws.one_table.Goals as goal

pub returns : goal.returns
returns c = one_table
