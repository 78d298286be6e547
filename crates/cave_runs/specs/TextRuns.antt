-- How a run ends that reads a structure and writes one text. This is this project's own.
use Rattle.std.specs.Prelude.{◌≡◌, ◌≢◌, ◌<◌, ◌≤◌, ◌⊎◌, ℕ, List, length, Result, MatchResult, IfErr, IfSome}
use Rattle.std.specs.Prelude.{OnOk}
use Rattle.proof_check.specs.Reading.{GivesAtMost}
use Rattle.cave_runs.specs.Limits.{structure_limit}
use Rattle.cave_runs.specs.Streams.{IsKept, Stream, Takes, TakesFront}
use Rattle.cave_runs.specs.declared.fault.Input.TheVariants.{StructureInput}
use Rattle.cave_runs.specs.declared.fault.RunFault.{RunFault}
use Rattle.cave_runs.specs.declared.fault.RunFault.TheVariants as faults

-- the writer took such a text, and nothing else
abbrev pub WritesText : (List ℕ → Type 0) → Stream → Type 0
WritesText IsText writer = (text : List ℕ) × IsText text × Takes writer text

-- the writer took a beginning of such a text
abbrev pub BeginsText : (List ℕ → Type 0) → Stream → Type 0
BeginsText IsText writer = (text : List ℕ) × IsText text × TakesFront writer text

-- the input is too long, or its bytes have such a fault
abbrev pub IsOfBytes : (List ℕ → RunFault → Type 0) → List ℕ → RunFault → Type 0
IsOfBytes IsFault bytes fault = ((structure_limit < length bytes) × (fault ≡ faults.TooLong StructureInput))
    ⊎ ((length bytes ≤ structure_limit) × IsFault bytes fault)

-- the fault lies in the input, and neither in a stream nor in memory
abbrev pub IsOfInput : RunFault → Type 0
IsOfInput fault = (fault ≢ faults.ReadFailed) × (fault ≢ faults.WriteFailed) × (fault ≢ faults.OutOfMemory)

-- the fault is answered, unless a read failed or memory ran out
abbrev pub IsRefusedRun : {X : Type 0} → Result X RunFault → RunFault → Type 0
IsRefusedRun r fault = MatchResult r (λ _. ⊥) (λ e. (e ≡ fault) ⊎ (e ≡ faults.ReadFailed) ⊎ (e ≡ faults.OutOfMemory))

-- how a run ends that reads this structure and writes one text, by which texts it may write of the bytes that it reads,
-- and which faults these have
pub record IsRunOfText (IsText : List ℕ → List ℕ → Type 0) (IsFault : List ℕ → RunFault → Type 0)
    (structure : Stream) (result : Result (Unit {0}) RunFault) (writer : Stream) : Type 0 where
  -- what was written is a text of the bytes that were read
  pub done : OnOk result (IfSome structure.before (λ bytes. WritesText (IsText bytes) writer))
  -- a refused input leaves the writer as it was
  pub untouched : IfErr result (λ e. e ≢ faults.WriteFailed → IsKept writer)
  -- a failed write leaves a beginning of the text
  pub begun : IfErr result (λ e. e ≡ faults.WriteFailed
      → IfSome structure.before (λ bytes. BeginsText (IsText bytes) writer))
  -- a fault of the input is the one that the definitions name
  pub fault : IfErr result (λ e. IsOfInput e → IfSome structure.before (λ bytes. IsOfBytes IsFault bytes e))
  -- such a fault is answered, unless a read failed
  pub refused : IfSome structure.before (λ bytes. (e : RunFault) → IsOfBytes IsFault bytes e → IsRefusedRun result e)
  -- a failed read comes before more than the limit was read
  pub before : IfErr result (λ e. e ≡ faults.ReadFailed
      → GivesAtMost structure_limit structure.before structure.after)
