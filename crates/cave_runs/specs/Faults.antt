-- A run's fault, of those of its parts: memory that was refused is told as such, whatever part met it.
use Rattle.cave_reading.specs.declared.cave_fault.CaveFault.{CaveFault}
use Rattle.cave_reading.specs.declared.cave_fault.CaveFault.TheVariants as cave
use Rattle.cave_plan.specs.declared.fault.PlanFault.{PlanFault}
use Rattle.cave_plan.specs.declared.fault.PlanFault.TheVariants as plan
use Rattle.certificate_text.specs.declared.fault.WriteFault.{WriteFault}
use Rattle.certificate_text.specs.declared.fault.WriteFault.TheVariants as writing
use Rattle.plan_reading.specs.declared.fault.TorchesFault.{TorchesFault}
use Rattle.plan_reading.specs.declared.fault.TorchesFault.TheVariants as torches
use Rattle.proof_check.specs.declared.fault.CheckFault.{CheckFault}
use Rattle.proof_check.specs.declared.fault.CheckFault.TheVariants as check
use Rattle.cave_runs.specs.declared.fault.Input.TheVariants.{ProofInput}
use Rattle.cave_runs.specs.declared.fault.RunFault.{RunFault}
use Rattle.cave_runs.specs.declared.fault.RunFault.TheVariants.{ReadFailed, TooLong, WriteFailed, Scan, Table, Build}
use Rattle.cave_runs.specs.declared.fault.RunFault.TheVariants.{Plan, Unlightable, NoThread, OutOfMemory}

-- a cave's fault, as one of the run
abbrev pub run_fault_of : CaveFault → RunFault
run_fault_of (cave.Scan fault) = Scan fault
run_fault_of (cave.Table fault) = Table fault
run_fault_of (cave.Build fault) = Build fault
run_fault_of cave.OutOfMemory = OutOfMemory

-- why a cave has no plan, as a fault of the run
abbrev pub of_plan : PlanFault → RunFault
of_plan (plan.Unlightable x y z) = Unlightable x y z
of_plan plan.NoThread = NoThread
of_plan plan.OutOfMemory = OutOfMemory

-- why a plan's text gives a cave no torches, as a fault of the run
abbrev pub of_torches : TorchesFault → RunFault
of_torches (torches.Syntax line) = Plan (torches.Syntax line)
of_torches (torches.Illegal x y z) = Plan (torches.Illegal x y z)
of_torches torches.OutOfMemory = OutOfMemory

-- a fault of writing, as one of the run
abbrev pub of_write : WriteFault → RunFault
of_write writing.WriteFailed = WriteFailed
of_write writing.OutOfMemory = OutOfMemory

-- a fault of a check, as one of the run; what is too long there is the certificate
abbrev pub of_check : CheckFault → RunFault
of_check (check.Scan fault) = Scan fault
of_check (check.Table fault) = Table fault
of_check (check.Build fault) = Build fault
of_check check.ReadFailed = ReadFailed
of_check check.TooLong = TooLong ProofInput
of_check check.OutOfMemory = OutOfMemory
