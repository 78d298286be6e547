-- Which deques the workers of one search have. This is this project's own.
use Rattle.std.specs.Prelude.{◌≡◌, ℕ, zero, suc, ◌+◌, List, [], ◌∷◌}
use Rattle.std.specs.declared.alloc.Global.{Global}
use Rattle.atomic_blocks.specs.Lent.{RowsId}
use Rattle.crossbeam_deque.specs.Handles.{Pass, view, stealer_deque, stealer_flavor}
use Rattle.crossbeam_deque.specs.declared.handles.Stealer.{Stealer}
use Rattle.proof_tree.specs.Piece.{Subproblem}
use Rattle.piece_deque.specs.declared.rule.EachOnce.{EachOnce}
use Rattle.piece_deque.specs.declared.dealt.Dealt.{Dealt}

-- which deque it is
abbrev pub DequeId : Type 0
DequeId = RowsId × Global

-- a pass at a deque of pieces
abbrev pub PiecePass : Type 0
PiecePass = Pass Subproblem Dealt Global

-- what takes pieces of a deque by a pass
abbrev pub Thief : Type 0
Thief = Stealer Subproblem Global Dealt EachOnce

-- numbers in order from `first` on, as many as the second argument says
abbrev pub numbers_from : ℕ → ℕ → List ℕ
numbers_from first zero = []
numbers_from first (suc count) = first ∷ numbers_from (first + 1) count

-- what a pass knows
abbrev pub known_by : PiecePass → Dealt
known_by pass = view pass

-- thieves at the deques from this number on, which are first in, first out
abbrev pub AreThieves : (ℕ → DequeId) → ℕ → List Thief → Type 0
AreThieves deque first [] = Unit {0}
AreThieves deque first (thief ∷ thieves) =
    (stealer_deque thief ≡ deque first) × (stealer_flavor thief ≡ 0) × AreThieves deque (first + 1) thieves
