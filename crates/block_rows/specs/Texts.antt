-- What is printed of a fault of a table: the words of docs/FORMATS.md.
use Rattle.std.specs.Prelude.{ℕ, List, ◌++◌, codes}
use Rattle.std.specs.Fmt.{decimal}
use Rattle.block_rows.specs.declared.fault.RowFault.{RowFault}
use Rattle.block_rows.specs.declared.fault.RowFault.TheVariants.{Shape, UnknownKey, BadName, BadWhen, BadNumber}
use Rattle.block_rows.specs.declared.fault.RowFault.TheVariants.{BadFlag, PutNotPlain}
use Rattle.block_rows.specs.declared.fault.RowsFault.{RowsFault}
use Rattle.block_rows.specs.declared.fault.RowsFault.TheVariants.{Toml, BadRow, OutOfMemory}

-- the word for what is wrong with a row
abbrev pub row_fault_text : RowFault → List ℕ
row_fault_text Shape = codes "shape"
row_fault_text UnknownKey = codes "key"
row_fault_text BadName = codes "name"
row_fault_text BadWhen = codes "when"
row_fault_text BadNumber = codes "number"
row_fault_text BadFlag = codes "flag"
row_fault_text PutNotPlain = codes "put"

-- the text of a fault
abbrev pub fault_text : RowsFault → List ℕ
fault_text Toml = codes "table: not TOML"
fault_text (BadRow index fault) = codes "table: row " ++ decimal index ++ codes ": " ++ row_fault_text fault
fault_text OutOfMemory = codes "out of memory"
