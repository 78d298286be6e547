use Rattle.block_rows.proofs.TableLemmas.{one_fault}
use Rattle.block_rows.proofs.laws.one_table_fault.Goals as goal

pub returns : goal.returns
returns c = one_fault
