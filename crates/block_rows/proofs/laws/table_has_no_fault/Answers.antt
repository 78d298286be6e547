use Rattle.block_rows.proofs.TableLemmas.{table_has_no_fault}
use Rattle.block_rows.proofs.laws.table_has_no_fault.Goals as goal

pub returns : goal.returns
returns c = table_has_no_fault
