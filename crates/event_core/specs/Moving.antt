-- What is asked before a piece is closed or opened.
use Rattle.std.specs.Prelude.{◌≡◌, ℕ, List, Option, Some, None}
use Rattle.proof_tree.specs.Piece.{Subproblem}
use Rattle.event_core.specs.State.{State, Status, Way, HasPart, IsLeft, piece_of}
use Rattle.event_core.specs.Events.{MayOpen}
use Rattle.event_core.specs.Kept.{Kept, state_of}
use Rattle.event_core.specs.Opening.{IsOpening}
use Rattle.event_core.specs.declared.node.PieceNode.{PieceNode}
use Rattle.event_core.specs.declared.tracing.Standing.TheVariants.{Held}
use Rattle.event_core.specs.declared.tracing.Traced.{Traced}

-- the worker holds a piece in which the same places are chosen and barred
pub record IsHeldAs (traced : Traced) (worker : ℕ) (piece : Subproblem) : Type 0 where
  pub standing : traced.standing ≡ Held worker
  pub chosen : traced.chosen.items ≡ piece.chosen
  pub barred : traced.barred.items ≡ piece.barred

-- the piece of this name, which waits or is held; none where none of this name does
abbrev pub IsLeftPiece : State → List ℕ → Option Subproblem → Type 0
IsLeftPiece state name None =
    (chosen barred : List ℕ) (status : Status) → HasPart state name chosen barred status → ¬ IsLeft status
IsLeftPiece state name (Some piece) = (piece ≡ piece_of state name piece.chosen piece.barred)
    × (status : Status) × HasPart state name piece.chosen piece.barred status × IsLeft status

-- the piece of this name, opened in this way; none where it may not be opened so
abbrev pub IsMade : Kept → List ℕ → Way → Option PieceNode → Type 0
IsMade kept name way None = ¬ MayOpen (state_of kept) name way
IsMade kept name way (Some node) = MayOpen (state_of kept) name way
    × ((chosen barred : List ℕ) (was : Status) → HasPart (state_of kept) name chosen barred was
    → IsOpening (piece_of (state_of kept) name chosen barred) way node)
