-- The fault of a check, of that of a cave.
use Rattle.cave_reading.specs.declared.cave_fault.CaveFault.{CaveFault}
use Rattle.cave_reading.specs.declared.cave_fault.CaveFault.TheVariants as cave
use Rattle.proof_check.specs.declared.fault.CheckFault.{CheckFault}
use Rattle.proof_check.specs.declared.fault.CheckFault.TheVariants.{Scan, Table, Build, OutOfMemory}

-- a cave's fault, as one of the check
abbrev pub check_fault_of : CaveFault → CheckFault
check_fault_of (cave.Scan fault) = Scan fault
check_fault_of (cave.Table fault) = Table fault
check_fault_of (cave.Build fault) = Build fault
check_fault_of cave.OutOfMemory = OutOfMemory
