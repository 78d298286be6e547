-- The first fault of a user's table, as it is found: element by element. specs/UserTable says which one it is, and
-- proofs/FaultLemmas that the two agree.
use Rattle.std.specs.Prelude.{ℕ, suc, Option, Some, None, option_map, if◌then◌else◌}
use Rattle.std.specs.Option.{option_or}
use Rattle.toml.specs.Data.{Items, no_items, item, Members}
use Rattle.block_rows.specs.declared.fault.RowFault.TheVariants.{Shape}
use Rattle.block_rows.specs.declared.fault.RowsFault.{RowsFault}
use Rattle.block_rows.specs.declared.fault.RowsFault.TheVariants.{BadRow}
use Rattle.block_rows.specs.UserTable.{element_fault, has_shape, elements_of}

-- the first fault of the elements, of which the first has this index
abbrev pub rows_fault : ℕ → Items → Option RowsFault
rows_fault index no_items = None
rows_fault index (item d ds) = option_or (option_map (BadRow index) (element_fault d)) (rows_fault (suc index) ds)

-- the first fault of a document
abbrev pub document_fault : Members → Option RowsFault
document_fault document = if has_shape document then rows_fault 0 (elements_of document) else Some (BadRow 0 Shape)
