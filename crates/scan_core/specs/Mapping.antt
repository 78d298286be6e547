-- What a fault of the bytes becomes.
use Rattle.nbt_core.specs.declared.fault.NbtFault.{NbtFault}
use Rattle.nbt_core.specs.declared.fault.NbtFault.TheVariants as inner
use Rattle.scan_core.specs.declared.fault.ScanFault.{ScanFault}
use Rattle.scan_core.specs.declared.fault.ScanFault.TheVariants.{Nbt, OutOfMemory}

-- out of memory stays so, and any other fault is one of the bytes
abbrev pub of_nbt : NbtFault → ScanFault
of_nbt inner.OutOfMemory = OutOfMemory
of_nbt fault = Nbt fault
