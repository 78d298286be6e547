-- How often a name stands among pieces. This is this project's own.
use Rattle.std.specs.Prelude.{ℕ, ◌+◌, Bool, true, false, ◌&&◌, List, [], ◌∷◌, eqb}
use Rattle.std.specs.Prelude.{if◌then◌else◌}
use Rattle.proof_tree.specs.Piece.{Subproblem}

-- whether two names are the same
abbrev pub is_same_name : List ℕ → List ℕ → Bool
is_same_name [] [] = true
is_same_name [] (b ∷ others) = false
is_same_name (a ∷ rest) [] = false
is_same_name (a ∷ rest) (b ∷ others) = eqb a b && is_same_name rest others

-- how many of the pieces have this name
abbrev pub count_named : List ℕ → List Subproblem → ℕ
count_named name [] = 0
count_named name (piece ∷ pieces) = (if is_same_name name piece.name then 1 else 0) + count_named name pieces
