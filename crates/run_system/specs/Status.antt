-- The exit status of a run that was refused. The numbers are this project's own.
use Rattle.std.specs.Prelude.{◌≡◌, ◌⊎◌, ℕ}
use Rattle.proof_check.specs.declared.verdict.Verdict.{Verdict}
use Rattle.proof_check.specs.declared.verdict.Verdict.TheVariants.{Accepted, Rejected}
use Rattle.cave_runs.specs.declared.plan.Outcome.{Outcome}
use Rattle.cave_runs.specs.declared.plan.Outcome.TheVariants.{Done, Stopped}
use Rattle.cave_runs.specs.declared.fault.RunFault.{RunFault}
use Rattle.cave_runs.specs.declared.fault.RunFault.TheVariants.{ReadFailed, TooLong, WriteFailed, Scan, Table, Build}
use Rattle.cave_runs.specs.declared.fault.RunFault.TheVariants.{Plan, Unlightable, NoThread, OutOfMemory}

-- 1 for refused input, 3 where a cell can't be lit, 6 where reading or writing failed, 7 where memory or threads were
-- refused
abbrev pub status : RunFault → ℕ
status ReadFailed = 6
status (TooLong input) = 1
status WriteFailed = 6
status (Scan fault) = 1
status (Table fault) = 1
status (Build fault) = 1
status (Plan fault) = 1
status (Unlightable x y z) = 3
status NoThread = 7
status OutOfMemory = 7

-- 5 where the turns of a region were spent, else 0
abbrev pub end_status : Outcome → ℕ
end_status (Done turns) = 0
end_status (Stopped turns) = 5

-- 4 where the certificate is rejected, else 0
abbrev pub judged : Verdict → ℕ
judged (Accepted torches) = 0
judged (Rejected reason) = 4

-- a status without an answer: the input is refused, the words are wrong, a cell can't be lit, or memory or threads were
-- refused
abbrev pub IsRefused : ℕ → Type 0
IsRefused status = (status ≡ 1) ⊎ (status ≡ 2) ⊎ (status ≡ 3) ⊎ (status ≡ 7)
