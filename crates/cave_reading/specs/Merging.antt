-- The fault of a cave, of those of its parts: memory that was refused is told as such, whatever part met it.
use Rattle.scan_core.specs.declared.fault.ScanFault.{ScanFault}
use Rattle.scan_core.specs.declared.fault.ScanFault.TheVariants as scan
use Rattle.block_rows.specs.declared.fault.RowsFault.{RowsFault}
use Rattle.block_rows.specs.declared.fault.RowsFault.TheVariants as rows
use Rattle.cave_reading.specs.declared.fault.BuildFault.{BuildFault}
use Rattle.cave_reading.specs.declared.fault.BuildFault.TheVariants as building
use Rattle.cave_reading.specs.declared.cave_fault.CaveFault.{CaveFault}
use Rattle.cave_reading.specs.declared.cave_fault.CaveFault.TheVariants.{Scan, Table, Build, OutOfMemory}

-- the fault of a cave whose structure has this one
abbrev pub of_scan : ScanFault → CaveFault
of_scan scan.OutOfMemory = OutOfMemory
of_scan fault = Scan fault

-- the fault of a cave whose table has this one
abbrev pub of_rows : RowsFault → CaveFault
of_rows rows.OutOfMemory = OutOfMemory
of_rows fault = Table fault

-- the fault of a cave in whose building this one was met
abbrev pub of_build : BuildFault → CaveFault
of_build building.OutOfMemory = OutOfMemory
of_build fault = Build fault
