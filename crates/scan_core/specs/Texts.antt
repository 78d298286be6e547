-- The text of each fault. It is this project's own.
use Rattle.std.specs.Prelude.{ℕ, List, ◌++◌, codes, decimal}
use Rattle.nbt_core.specs.Texts as inner
use Rattle.scan_core.specs.declared.fault.Field.{Field}
use Rattle.scan_core.specs.declared.fault.Field.TheVariants.{SizeField, PaletteField, NameField, BlocksField}
use Rattle.scan_core.specs.declared.fault.Field.TheVariants.{PosField, StateField}
use Rattle.scan_core.specs.declared.fault.ScanFault.{ScanFault}
use Rattle.scan_core.specs.declared.fault.ScanFault.TheVariants as faults

-- how a fault names a field of the structure: by its path, with the index of its entry where it is of one
abbrev pub field_text : Field → List ℕ
field_text SizeField = codes "size"
field_text PaletteField = codes "palette"
field_text (NameField index) = codes "palette[" ++ decimal index ++ codes "].Name"
field_text BlocksField = codes "blocks"
field_text (PosField index) = codes "blocks[" ++ decimal index ++ codes "].pos"
field_text (StateField index) = codes "blocks[" ++ decimal index ++ codes "].state"

-- what is printed of a fault of the structure
abbrev pub fault_text : ScanFault → List ℕ
fault_text (faults.Nbt fault) = inner.fault_text fault
fault_text (faults.Missing field) = codes "structure: missing " ++ field_text field
fault_text (faults.WrongType field) = codes "structure: wrong type of " ++ field_text field
fault_text faults.BadSize = codes "structure: negative size"
fault_text faults.TooLarge = codes "structure: too large"
fault_text (faults.BadPosition index) = codes "structure: block " ++ decimal index ++ codes " outside the box"
fault_text (faults.BadState index) = codes "structure: block " ++ decimal index ++ codes " has no such state"
fault_text faults.Palettes = codes "structure: palettes"
fault_text faults.OutOfMemory = codes "out of memory"
