-- The pieces that wait. This is this project's own.
use Rattle.std.specs.Prelude.{◌≡◌, ℕ, List, Contains, Option, Some, None}
use Rattle.proof_tree.specs.Piece.{Subproblem}
use Rattle.event_core.specs.State.{State, waiting, HasPart}

-- among these names is that of each piece that waits
abbrev pub AreAllWaiting : State → List (List ℕ) → Type 0
AreAllWaiting state names =
    (name chosen barred : List ℕ) → HasPart state name chosen barred waiting → Contains names name

-- the piece of this name as it waits; none where none of this name waits
abbrev pub IsWaitingPiece : State → List ℕ → Option Subproblem → Type 0
IsWaitingPiece state name None = (chosen barred : List ℕ) → ¬ HasPart state name chosen barred waiting
IsWaitingPiece state name (Some piece) =
    (piece.region ≡ state.region) × (piece.name ≡ name) × HasPart state name piece.chosen piece.barred waiting
