-- The workers' deques at the start. This is this project's own.
use Rattle.std.specs.Prelude.{◌≡◌, ℕ, zero, suc, List, [], ◌∷◌, All}
use Rattle.crossbeam_deque.specs.Handles.{stealer_deque, stealer_flavor, worker_deque, worker_flavor, worker_view}
use Rattle.proof_tree.specs.Piece.{Subproblem}
use Rattle.worker_results.specs.Naming.{DequeId, Thief}
use Rattle.worker_results.specs.Nothing.{no_deque}
use Rattle.search_pool.specs.Slots.{Owner, ready}

-- these pieces were pushed, and nothing was taken from it; it is first in, first out
pub record HasPushed (pieces : List Subproblem) (owner : Owner) : Type 0 where
  pub first_out : worker_flavor owner ≡ 0
  pub pass : worker_view owner ≡ ready pieces 0

-- these pieces lie on the first one, and none on the others
abbrev pub AreStocked : List Subproblem → List Owner → Type 0
AreStocked pieces [] = ⊥
AreStocked pieces (owner ∷ owners) = HasPushed pieces owner × All (HasPushed []) owners

-- a thief for each deque
abbrev pub AreThievesOf : List Owner → List Thief → Type 0
AreThievesOf [] [] = Unit {0}
AreThievesOf [] (thief ∷ thieves) = ⊥
AreThievesOf (owner ∷ owners) [] = ⊥
AreThievesOf (owner ∷ owners) (thief ∷ thieves) = (stealer_deque thief ≡ worker_deque owner)
    × (stealer_flavor thief ≡ worker_flavor owner) × AreThievesOf owners thieves

-- the deque of the worker with this number
abbrev pub deque_at : List Owner → ℕ → DequeId
deque_at [] worker = no_deque
deque_at (owner ∷ owners) zero = worker_deque owner
deque_at (owner ∷ owners) (suc worker) = deque_at owners worker

-- what was pushed on it
abbrev pub pushed_at : List Owner → ℕ → List Subproblem
pushed_at [] worker = []
pushed_at (owner ∷ owners) zero = (worker_view owner).pushed
pushed_at (owner ∷ owners) (suc worker) = pushed_at owners worker
