-- What a check writes of the bytes that are read, or why there is no verdict. This is this project's own.
use Rattle.std.specs.Prelude.{◌≡◌, ◌<◌, ◌⊎◌, ◌++◌, ℕ, List, length, codes, Option, Result, MatchResult, IfSome}
use Rattle.cave_model.specs.Cave.{Cave}
use Rattle.cave_model.specs.Rule.{Rule}
use Rattle.cave_reading.specs.Bytes.{IsCaveOfBytes}
use Rattle.proof_rules.specs.Certificate.{Certificate, torches_of}
use Rattle.proof_check.specs.Accepted.{Accepts, IsBestPlan}
use Rattle.proof_check.specs.Texts.{verdict_text}
use Rattle.proof_check.specs.Verdict.{IsJudged}
use Rattle.proof_check.specs.Reading.{GivesAtMost}
use Rattle.proof_check.specs.declared.verdict.Verdict.{Verdict}
use Rattle.proof_check.specs.declared.verdict.Verdict.TheVariants.{Accepted}
use Rattle.cave_runs.specs.Limits.{proof_limit, structure_limit}
use Rattle.cave_runs.specs.Runs.{IsFaultOfInput}
use Rattle.cave_runs.specs.Streams.{IsKept, Stream, Takes, TakesFront}
use Rattle.cave_runs.specs.declared.fault.Input.{Input}
use Rattle.cave_runs.specs.declared.fault.Input.TheVariants.{ProofInput}
use Rattle.cave_runs.specs.declared.fault.RunFault.{RunFault}
use Rattle.cave_runs.specs.declared.fault.RunFault.TheVariants as faults

-- the line of a verdict
abbrev pub verdict_line : Verdict → List ℕ
verdict_line verdict = verdict_text verdict ++ codes "\n"

-- the verdict of what both readers had, where it is known
abbrev pub Judges : Option (List ℕ) → Option (List ℕ) → Rule → Option (List ℕ) → Verdict → Type 0
Judges structure table rule certificate verdict = IfSome structure
    (λ bytes. IfSome certificate (λ text. IsJudged bytes table rule text verdict))

-- the verdict's line was written, and nothing else
pub record WritesVerdict (structure table : Option (List ℕ)) (rule : Rule) (certificate : Option (List ℕ))
    (writer : Stream) (verdict : Verdict) : Type 0 where
  pub judges : Judges structure table rule certificate verdict
  pub written : Takes writer (verdict_line verdict)

-- the text is a certificate of the cave that the bytes tell, and its own torches, whose number is `torches`, are safe
-- and the fewest
pub record ShowsFewest (bytes : List ℕ) (table : Option (List ℕ)) (rule : Rule) (text : List ℕ) (torches : ℕ)
    : Type 0 where
  pub cave : Cave
  pub told : IsCaveOfBytes bytes table rule cave
  pub certificate : Certificate
  pub accepted : Accepts cave text certificate
  pub number : length (torches_of certificate.sections) ≡ torches
  pub best : IsBestPlan cave (torches_of certificate.sections)

-- where the certificate is accepted, it shows that
abbrev pub IsTrusted : Option (List ℕ) → Option (List ℕ) → Rule → Option (List ℕ) → Verdict → Type 0
IsTrusted structure table rule certificate verdict = IfSome structure (λ bytes. IfSome certificate (λ text.
    (torches : ℕ) → verdict ≡ Accepted torches → ShowsFewest bytes table rule text torches))

-- a failed write leaves a beginning of the line, any other fault nothing
abbrev pub LeavesLine : RunFault → Option (List ℕ) → Option (List ℕ) → Rule → Option (List ℕ) → Stream → Type 0
LeavesLine faults.WriteFailed structure table rule certificate writer =
    (verdict : Verdict) × Judges structure table rule certificate verdict × TakesFront writer (verdict_line verdict)
LeavesLine other structure table rule certificate writer = IsKept writer

-- why there is no verdict: the structure has a fault, or the certificate is too long
abbrev pub IsNoVerdict : Option (List ℕ) → Option (List ℕ) → Option (List ℕ) → RunFault → Type 0
IsNoVerdict structure table certificate fault = IfSome structure (λ bytes. IsFaultOfInput bytes table fault)
    ⊎ ((fault ≡ faults.TooLong ProofInput) × IfSome certificate (λ text. proof_limit < length text))

-- a stream failed, an input is too long, or memory ran out
abbrev pub IsExcuse : RunFault → Type 0
IsExcuse fault = (fault ≡ faults.ReadFailed) ⊎ (fault ≡ faults.WriteFailed) ⊎ (fault ≡ faults.OutOfMemory)
    ⊎ ((input : Input) × (fault ≡ faults.TooLong input))

-- the verdict, unless for one of these
abbrev pub IsSaid : Result Verdict RunFault → Verdict → Type 0
IsSaid r verdict = MatchResult r (λ v. v ≡ verdict) IsExcuse

-- the verdict of what both readers had is answered, unless for one of these
abbrev pub SaysIt : Option (List ℕ) → Option (List ℕ) → Rule → Option (List ℕ) → Result Verdict RunFault → Type 0
SaysIt structure table rule certificate r = IfSome structure (λ bytes. IfSome certificate (λ text.
    (verdict : Verdict) → IsJudged bytes table rule text verdict → IsSaid r verdict))

-- the fault, unless a read failed, the certificate is too long or memory ran out
abbrev pub IsUnsaid : Result Verdict RunFault → RunFault → Type 0
IsUnsaid r fault = MatchResult r (λ _. ⊥) (λ e. (e ≡ fault) ⊎ (e ≡ faults.ReadFailed)
    ⊎ (e ≡ faults.TooLong ProofInput) ⊎ (e ≡ faults.OutOfMemory))

-- a read failed, an input is too long, or memory ran out
abbrev pub IsUnread : RunFault → Type 0
IsUnread fault = (fault ≡ faults.ReadFailed) ⊎ (fault ≡ faults.OutOfMemory)
    ⊎ ((input : Input) × (fault ≡ faults.TooLong input))

-- a certificate above the limit has no verdict
abbrev pub IsWhole : Option (List ℕ) → Result Verdict RunFault → Type 0
IsWhole certificate r = IfSome certificate (λ text. proof_limit < length text → MatchResult r (λ _. ⊥) IsUnread)

-- of a structure and a certificate no more was read than their limits
abbrev pub GiveAtMost : Stream → Stream → Type 0
GiveAtMost structure certificate = GivesAtMost structure_limit structure.before structure.after
    × GivesAtMost proof_limit certificate.before certificate.after
