-- What a plan writes of the bytes that are read, or why they have no plan. This is this project's own.
use Rattle.std.specs.Prelude.{◌≡◌, ◌<◌, ◌≤◌, ◌⊎◌, ◌↔◌, ℕ, List, [], length, Contains, Option, Some, None}
use Rattle.std.specs.Prelude.{IsSome, IfSome}
use Rattle.cave_base.specs.Box.{coordinates}
use Rattle.cave_reading.specs.Bytes.{IsCaveOfBytes}
use Rattle.cave_model.specs.Cave.{Cave}
use Rattle.cave_model.specs.Plan.{hung, IsSafe}
use Rattle.cave_model.specs.Rule.{Rule}
use Rattle.cave_problem.specs.Coverage.{IsUnlightable}
use Rattle.proof_rules.specs.Certificate.{Certificate, torches_of}
use Rattle.certificate_text.specs.Planned.{Plan, certificate_text}
use Rattle.proof_check.specs.Accepted.{Accepts, IsBestPlan}
use Rattle.search_traits.specs.Turns.{IsShareSpent, IsWithin}
use Rattle.search_traits.specs.declared.planner.Allowance.{Allowance}
use Rattle.cave_plan.specs.Best.{AreByLeastCell, IsInLeastVersion}
use Rattle.cave_plan.specs.Bounded.{Bounded, IsPlanWithin, IsSumOf}
use Rattle.cave_plan.specs.Outline.{Prints, IsPlanned, IsStoppedAt, IsOutlineOf}
use Rattle.cave_plan.specs.declared.outline.Outline.{Outline}
use Rattle.cave_runs.specs.Limits.{structure_limit}
use Rattle.cave_runs.specs.Runs.{IsFaultOfBytes}
use Rattle.cave_runs.specs.Streams.{AreKept, Inputs, IsKept, Outputs, Takes, TakesFront, TakesPart}
use Rattle.cave_runs.specs.declared.fault.Input.TheVariants.{StructureInput}
use Rattle.cave_runs.specs.declared.fault.RunFault.{RunFault}
use Rattle.cave_runs.specs.declared.fault.RunFault.TheVariants as faults
use Rattle.cave_runs.specs.declared.plan.Outcome.{Outcome}
use Rattle.cave_runs.specs.declared.plan.Outcome.TheVariants.{Done, Stopped}

-- ---- what is written

-- safe torches were printed, each by its first legal hang, with no safe ones fewer; and a certificate that the checker
-- accepts, of just these torches, its regions by their least cells, in the least version that can speak of them
pub record WritesBest (cave : Cave) (out : Outputs) : Type 0 where
  pub torches : List ℕ
  pub safe : IsSafe cave (hung cave torches)
  pub best : IsBestPlan cave torches
  pub text : List ℕ
  pub prints : Prints cave torches None text
  pub written : Takes out.text text
  pub proof : List ℕ
  pub certificate : Certificate
  pub accepted : Accepts cave proof certificate
  pub ordered : AreByLeastCell certificate.sections
  pub versioned : IsInLeastVersion certificate
  pub same : (cell : ℕ) → Contains torches cell ↔ Contains (torches_of certificate.sections) cell
  pub number : length torches ≡ length (torches_of certificate.sections)
  pub proved : Takes out.proof proof

-- turns were limited: safe torches were printed, with a number that no safe ones are fewer than, the sum of what parts
-- for the cave's regions have, and no certificate
pub record WritesFloor (cave : Cave) (allowance : Allowance) (out : Outputs) : Type 0 where
  pub limited : IsSome allowance.turns
  pub torches : List ℕ
  pub floor : ℕ
  pub within : IsPlanWithin cave torches floor
  pub parts : List Bounded
  pub summed : IsSumOf cave allowance parts torches floor
  pub text : List ℕ
  pub prints : Prints cave torches (Some floor) text
  pub written : Takes out.text text
  pub unproved : IsKept out.proof

-- what was written of the cave: where the plan is done the fewest torches and a certificate, and no region took more
-- turns than the limit; else safe torches alone, and some region took at least the share of one worker
abbrev pub EndsIn : Outcome → Cave → Allowance → Outputs → Type 0
EndsIn (Done granted) cave allowance out = IsWithin allowance.turns granted × WritesBest cave out
EndsIn (Stopped granted) cave allowance out =
    IsShareSpent allowance.workers allowance.turns granted × WritesFloor cave allowance out

-- this was written of the cave that the bytes tell
pub record Plans (bytes : List ℕ) (table : Option (List ℕ)) (rule : Rule) (allowance : Allowance) (outcome : Outcome)
    (out : Outputs) : Type 0 where
  pub cave : Cave
  pub told : IsCaveOfBytes bytes table rule cave
  pub ends : EndsIn outcome cave allowance out

-- ---- what a fault leaves

-- the text of a plan, and of its certificate
abbrev pub AreTextsOf : Cave → Allowance → List ℕ → List ℕ → Type 0
AreTextsOf cave allowance text proof = ((plans : List Plan) × IsPlanned cave text plans
    × (proof ≡ certificate_text cave plans))
    ⊎ ((plans : List Plan) × IsStoppedAt cave allowance text plans × (proof ≡ []))

-- a beginning of the text was written, and not all, and one of the certificate, or all of it
pub record BeginsTexts (cave : Cave) (allowance : Allowance) (out : Outputs) : Type 0 where
  pub text : List ℕ
  pub proof : List ℕ
  pub are : AreTextsOf cave allowance text proof
  pub written : TakesFront out.text text
  pub proved : TakesPart out.proof proof

-- such beginnings of the texts of a plan of the cave that the bytes tell
pub record BeginsPlan (bytes : List ℕ) (table : Option (List ℕ)) (rule : Rule) (allowance : Allowance) (out : Outputs)
    : Type 0 where
  pub cave : Cave
  pub told : IsCaveOfBytes bytes table rule cave
  pub begins : BeginsTexts cave allowance out

-- a failed write leaves a beginning of each; refused memory one of the certificate alone; any other fault nothing
abbrev pub Leaves : RunFault → Inputs → Allowance → Outputs → Type 0
Leaves faults.WriteFailed inputs allowance out =
    IfSome inputs.structure.before (λ bytes. BeginsPlan bytes inputs.table inputs.rule allowance out)
Leaves faults.OutOfMemory inputs allowance out = IsKept out.text × (IsKept out.proof
    ⊎ IfSome inputs.structure.before (λ bytes. BeginsPlan bytes inputs.table inputs.rule allowance out))
Leaves other inputs allowance out = AreKept out

-- what a fault of writing leaves of this cave's plan
abbrev pub LeavesIn : RunFault → Cave → Allowance → Outputs → Type 0
LeavesIn faults.WriteFailed cave allowance out = BeginsTexts cave allowance out
LeavesIn faults.OutOfMemory cave allowance out = IsKept out.text × BeginsTexts cave allowance out
LeavesIn other cave allowance out = ⊥

-- what a fault of writing leaves of this cave's plan, whatever the turns are
pub record LeavesProved (fault : RunFault) (cave : Cave) (out : Outputs) : Type 0 where
  pub each : (allowance : Allowance) → LeavesIn fault cave allowance out

-- ---- why there is no plan

-- the fault names the least dark cell that no place lights
pub record NamesUnlit (cave : Cave) (fault : RunFault) : Type 0 where
  pub cell : ℕ
  pub unlightable : IsUnlightable cave cell
  pub least : (other : ℕ) → IsUnlightable cave other → cell ≤ other
  pub named : fault ≡ faults.Unlightable (coordinates cave.size cell).x (coordinates cave.size cell).y
      (coordinates cave.size cell).z

-- the bytes tell no cave, or one that can't be lit
abbrev pub IsNoPlan : List ℕ → Option (List ℕ) → Rule → RunFault → Type 0
IsNoPlan bytes table rule fault = IsFaultOfBytes bytes table fault
    ⊎ ((cave : Cave) × IsCaveOfBytes bytes table rule cave × NamesUnlit cave fault)

-- the input is too long, or has no plan
abbrev pub IsNoPlanOfInput : List ℕ → Option (List ℕ) → Rule → RunFault → Type 0
IsNoPlanOfInput bytes table rule fault = ((structure_limit < length bytes) × (fault ≡ faults.TooLong StructureInput))
    ⊎ ((length bytes ≤ structure_limit) × IsNoPlan bytes table rule fault)

-- the cave of the bytes, with its outline
abbrev pub TellsPlans : List ℕ → Option (List ℕ) → Rule → Allowance → Cave → Outline → Type 0
TellsPlans bytes table rule allowance cave outline = IsCaveOfBytes bytes table rule cave
    × IsOutlineOf cave allowance outline
