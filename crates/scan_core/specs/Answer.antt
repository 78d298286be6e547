-- What a step of the scan answers that may meet a fault, or run out of memory.
use Rattle.std.specs.Prelude.{◌≡◌, ◌⊎◌, Option, Some, None, Result, MatchResult}
use Rattle.scan_core.specs.declared.fault.ScanFault.{ScanFault}
use Rattle.scan_core.specs.declared.fault.ScanFault.TheVariants.{OutOfMemory}

-- what is told, where the judgement is none, or the fault that is judged
abbrev pub TellsOrFaults : {X : Type 0} → Result X ScanFault → (X → Type 0) → Option ScanFault → Type 0
TellsOrFaults r Is judged = MatchResult r (λ x. Is x × (judged ≡ None)) (λ e. judged ≡ Some e)

-- what is told, where the judgement is none, or the fault that is judged, unless memory ran out
abbrev pub TellsInRoom : {X : Type 0} → Result X ScanFault → (X → Type 0) → Option ScanFault → Type 0
TellsInRoom r Is judged = MatchResult r (λ x. Is x × (judged ≡ None)) (λ e. (judged ≡ Some e) ⊎ (e ≡ OutOfMemory))
