-- What lists of pieces hold, in whatever order: however pieces are weighed, two lists that hold the same weigh the
-- same.
-- This is this project's own.
use Rattle.std.specs.Prelude.{ℕ, ◌+◌, List, [], ◌∷◌}
use Rattle.proof_tree.specs.Piece.{Subproblem}

-- the weights of the pieces, added up
abbrev pub weigh : (Subproblem → ℕ) → List Subproblem → ℕ
weigh weight [] = 0
weigh weight (piece ∷ pieces) = weight piece + weigh weight pieces
