-- How the bytes of a certificate come from a reader. The limits are this project's own.
use Rattle.std.specs.Prelude.{◌≡◌, ◌⊎◌, ◌<◌, ◌≤◌, ℕ, List, length, take, Option}
use Rattle.std.specs.Io.KnownBytes.{Consumes, IsAtEnd, Keeps}
use Rattle.proof_check.specs.declared.fault.CheckFault.{CheckFault}
use Rattle.proof_check.specs.declared.fault.CheckFault.TheVariants as faults

-- known bytes lose a beginning of at most `most` bytes
abbrev pub GivesAtMost : ℕ → Option (List ℕ) → Option (List ℕ) → Type 0
GivesAtMost most old new = (front : List ℕ) × (length front ≤ most) × Consumes old new front

-- a piece of `count` bytes came, no more than there is room for; an empty one comes at the end alone
pub record Gives (old new : Option (List ℕ)) (room : ℕ) (buffer : List ℕ) (count : ℕ) : Type 0 where
  pub within : count ≤ length buffer
  pub fits : count ≤ room
  pub given : Consumes old new (take count buffer)
  pub end : count ≡ 0 → IsAtEnd new

-- a read failed, or more bytes came than there is room for
abbrev pub GivesNone : Option (List ℕ) → Option (List ℕ) → ℕ → CheckFault → Type 0
GivesNone old new room fault = ((fault ≡ faults.ReadFailed) × Keeps old new)
    ⊎ ((fault ≡ faults.TooLong) × ((front : List ℕ) × (room < length front) × Consumes old new front))
