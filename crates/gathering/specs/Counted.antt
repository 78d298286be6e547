-- How many pieces workers and the caller's thread closed. This is this project's own.
use Rattle.std.specs.Prelude.{◌≡◌, ◌+◌, List, length, map}
use Rattle.proof_tree.specs.Piece.{Subproblem}
use Rattle.schedule_law.specs.Worked.{Worked}
use Rattle.schedule_law.specs.Joined.{all_back}
use Rattle.gathering.specs.Gathered.{Gathering}

-- each piece that a worker closed counts as its own, and the caller's thread closed as many as were handed back or left
pub record AreCounted (works : List Worked) (left : List Subproblem) (gathered : Gathering) : Type 0 where
  pub by_workers : gathered.closed_by ≡ map (λ work. length work.closed) works
  pub by_caller : length gathered.gleaned ≡ length (all_back works) + length left
