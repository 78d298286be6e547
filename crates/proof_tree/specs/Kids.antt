-- What is asked of the places of kids.
use Rattle.std.specs.Prelude.{ℕ, List, Contains}
use Rattle.std.specs.List.Sorted.{IsStrictlyIncreasing}
use Rattle.proof_tree.specs.Piece.{Subproblem}

-- ascending places of the region, none of which is chosen
pub record AreNewPlaces (piece : Subproblem) (places : List ℕ) : Type 0 where
  pub ascending : IsStrictlyIncreasing places
  pub of_it : (place : ℕ) → Contains places place → Contains piece.region.places place
  pub new : (place : ℕ) → Contains places place → ¬ Contains piece.chosen place
