-- What is printed of a verdict and of a fault. The words are this project's own.
use Rattle.std.specs.Prelude.{ℕ, List, ◌++◌, codes, decimal}
use Rattle.block_rows.specs.Texts as rows
use Rattle.cave_reading.specs.Texts as caves
use Rattle.scan_core.specs.Texts as scans
use Rattle.proof_check.specs.declared.fault.CheckFault.{CheckFault}
use Rattle.proof_check.specs.declared.fault.CheckFault.TheVariants.{Scan, Table, Build, ReadFailed, TooLong}
use Rattle.proof_check.specs.declared.fault.CheckFault.TheVariants.{OutOfMemory}
use Rattle.proof_check.specs.declared.reason.Reason.{Reason}
use Rattle.proof_check.specs.declared.reason.Reason.TheVariants.{Syntax, WrongBox, IllegalPlace, LeftDark, BadRegions}
use Rattle.proof_check.specs.declared.reason.Reason.TheVariants.{BadNode, TooWeak}
use Rattle.proof_check.specs.declared.verdict.Verdict.{Verdict}
use Rattle.proof_check.specs.declared.verdict.Verdict.TheVariants.{Accepted, Rejected}

-- what is printed of a reason
abbrev pub reason_text : Reason → List ℕ
reason_text (Syntax line) = codes "syntax line " ++ decimal line
reason_text WrongBox = codes "wrong box"
reason_text (IllegalPlace cell) = codes "illegal place " ++ decimal cell
reason_text (LeftDark cell) = codes "left dark " ++ decimal cell
reason_text (BadRegions cell) = codes "bad regions " ++ decimal cell
reason_text (BadNode line) = codes "bad node line " ++ decimal line
reason_text (TooWeak line) = codes "too weak line " ++ decimal line

-- what is printed of a verdict
abbrev pub verdict_text : Verdict → List ℕ
verdict_text (Accepted torches) = codes "accepted " ++ decimal torches
verdict_text (Rejected reason) = codes "rejected: " ++ reason_text reason

-- what is printed of a fault of a check
abbrev pub fault_text : CheckFault → List ℕ
fault_text (Scan fault) = scans.fault_text fault
fault_text (Table fault) = rows.fault_text fault
fault_text (Build fault) = caves.fault_text fault
fault_text ReadFailed = codes "cannot read"
fault_text TooLong = codes "proof: file too long"
fault_text OutOfMemory = codes "out of memory"
