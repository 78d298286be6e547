use Rattle.block_rows.proofs.TableLemmas.{table_or_fault}
use Rattle.block_rows.proofs.laws.table_or_fault.Goals as goal

pub returns : goal.returns
returns c = table_or_fault
