-- How a run of a check ends. This is this project's own.
use Rattle.std.specs.Prelude.{◌≡◌, Result, IfOk, IfErr, IfSome}
use Rattle.proof_check.specs.declared.verdict.Verdict.{Verdict}
use Rattle.cave_runs.specs.CheckRuns.{GiveAtMost, IsNoVerdict, IsTrusted, IsUnsaid, IsWhole, LeavesLine, SaysIt}
use Rattle.cave_runs.specs.CheckRuns.{WritesVerdict}
use Rattle.cave_runs.specs.Runs.{IsFaultOfInput}
use Rattle.cave_runs.specs.Streams.{Inputs, Stream}
use Rattle.cave_runs.specs.TextRuns.{IsOfInput}
use Rattle.cave_runs.specs.declared.fault.RunFault.{RunFault}
use Rattle.cave_runs.specs.declared.fault.RunFault.TheVariants as faults

-- how a run of a check ends: what it answers of a structure and a certificate, and what its writer holds
pub record IsRunOfCheck (inputs : Inputs) (certificate : Stream) (result : Result Verdict RunFault) (writer : Stream)
    : Type 0 where
  -- what was written is the line of the verdict of the bytes that were read
  pub done : IfOk result (WritesVerdict inputs.structure.before inputs.table inputs.rule certificate.before writer)
  -- such a verdict is answered, unless a stream failed
  pub only : SaysIt inputs.structure.before inputs.table inputs.rule certificate.before result
  -- the torches of an accepted certificate are safe in the cave that the structure tells, and the fewest
  pub fewest : IfOk result (IsTrusted inputs.structure.before inputs.table inputs.rule certificate.before)
  -- of a certificate above the limit no verdict is answered
  pub whole : IsWhole certificate.before result
  -- a failed write leaves a beginning of the line, any other fault nothing
  pub left : IfErr result (λ e. LeavesLine e inputs.structure.before inputs.table inputs.rule certificate.before writer)
  -- a fault of the input is the one that the definitions name
  pub fault : IfErr result (λ e. IsOfInput e
      → IsNoVerdict inputs.structure.before inputs.table certificate.before e)
  -- such a fault of the structure or the table is answered, unless a read failed or the certificate is too long
  pub refused : IfSome inputs.structure.before (λ bytes. (e : RunFault) → IsFaultOfInput bytes inputs.table e
      → IsUnsaid result e)
  -- a failed read comes before more than the limits was read
  pub before : IfErr result (λ e. e ≡ faults.ReadFailed → GiveAtMost inputs.structure certificate)
