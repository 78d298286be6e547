-- How a run of a plan ends, whoever plans its regions. This is this project's own.
use Rattle.std.specs.Prelude.{◌≡◌, ◌≢◌, ◌<◌, Result, IfOk, IfErr, IfSome}
use Rattle.proof_check.specs.Reading.{GivesAtMost}
use Rattle.search_traits.specs.declared.planner.Allowance.{Allowance}
use Rattle.cave_runs.specs.Limits.{structure_limit}
use Rattle.cave_runs.specs.PlanRuns.{IsNoPlanOfInput, Leaves, Plans}
use Rattle.cave_runs.specs.Streams.{Inputs, Outputs}
use Rattle.cave_runs.specs.TextRuns.{IsOfInput, IsRefusedRun}
use Rattle.cave_runs.specs.declared.fault.RunFault.{RunFault}
use Rattle.cave_runs.specs.declared.fault.RunFault.TheVariants as faults
use Rattle.cave_runs.specs.declared.plan.Outcome.{Outcome}

-- how a run of a plan ends: what it answers, and what its readers and writers hold afterwards, by its allowance of
-- workers and turns
pub record IsRunOfPlan (inputs : Inputs) (allowance : Allowance) (result : Result Outcome RunFault) (out : Outputs)
    : Type 0 where
  -- the fewest torches of the cave that the bytes tell, and their proof; or, where turns were limited, safe torches and
  -- a number that no safe ones are fewer than
  pub done : IfOk result (λ outcome. IfSome inputs.structure.before (λ bytes.
      Plans bytes inputs.table inputs.rule allowance outcome out))
  -- a failed write leaves a beginning of each text, refused memory one of the certificate alone; any other fault leaves
  -- both writers as they were
  pub left : IfErr result (λ e. Leaves e inputs allowance out)
  -- a fault of the input is the one that the definitions name
  pub fault : IfErr result (λ e. IsOfInput e → e ≢ faults.NoThread → IfSome inputs.structure.before (λ bytes.
      IsNoPlanOfInput bytes inputs.table inputs.rule e))
  -- such a fault is answered, unless a read failed
  pub refused : IfSome inputs.structure.before (λ bytes. (e : RunFault)
      → IsNoPlanOfInput bytes inputs.table inputs.rule e → IsRefusedRun result e)
  -- threads are asked for only where more workers than one are
  pub threads : IfErr result (λ e. e ≡ faults.NoThread → 1 < allowance.workers)
  -- a failed read comes before more than the limit was read
  pub before : IfErr result (λ e. e ≡ faults.ReadFailed → GivesAtMost structure_limit
      inputs.structure.before inputs.structure.after)
