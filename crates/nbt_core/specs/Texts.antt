-- The text of each fault. It is this project's own.
use Rattle.std.specs.Prelude.{ℕ, List, ◌++◌, codes, decimal}
use Rattle.nbt_core.specs.declared.fault.NbtFault.{NbtFault}
use Rattle.nbt_core.specs.declared.fault.NbtFault.TheVariants.{Compressed, Truncated, BadTag, NotCompound, BadLength}
use Rattle.nbt_core.specs.declared.fault.NbtFault.TheVariants.{TooDeep, OutOfMemory}

-- what is printed of a fault of NBT
abbrev pub fault_text : NbtFault → List ℕ
fault_text Compressed = codes "nbt: compressed"
fault_text (Truncated at) = codes "nbt: truncated at " ++ decimal at
fault_text (BadTag at id) = codes "nbt: bad tag " ++ decimal id ++ codes " at " ++ decimal at
fault_text NotCompound = codes "nbt: root is no compound"
fault_text (BadLength at) = codes "nbt: bad length at " ++ decimal at
fault_text (TooDeep at) = codes "nbt: too deep at " ++ decimal at
fault_text OutOfMemory = codes "out of memory"
