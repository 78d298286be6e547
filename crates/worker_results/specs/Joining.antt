-- What a caller hands over to join results. This is this project's own.
use Rattle.std.specs.Prelude.{◌≡◌, ℕ, ◌+◌, true, List, [], ◌∷◌, Some, map}
use Rattle.atomic_table.specs.Seated.{TableId}
use Rattle.beacon.specs.Marks.{Seated}
use Rattle.set_cover.specs.Instance.{Instance}
use Rattle.proof_tree.specs.Piece.{Subproblem, root_of}
use Rattle.proof_tree.specs.Weights.{weigh}
use Rattle.worker_results.specs.Naming.{numbers_from}
use Rattle.worker_results.specs.Passes.{Owned}
use Rattle.schedule_law.specs.Joined.{AreJoined}
use Rattle.schedule_law.specs.Worked.{Worked}
use Rattle.worker_results.specs.Results.{Handed}
use Rattle.worker_results.specs.Holdings.{work_of}

-- a number for each item, added up
abbrev pub total : {A : Type 0} → (A → ℕ) → List A → ℕ
total number [] = 0
total number (item ∷ items) = number item + total number items

-- the workers that handed over
abbrev pub workers_of : List Handed → List ℕ
workers_of results = map (λ done. done.holdings.worker) results

-- what each hands over, without seat and passes
abbrev pub works_of : List Handed → List Worked
works_of results = map (λ done. work_of done.holdings done.cover) results

-- the workers whose deques they own
abbrev pub numbers_of : List Owned → List ℕ
numbers_of owners = map (λ own. own.worker) owners

-- a result of each worker, in order
abbrev pub AreOfAll : ℕ → List Handed → Type 0
AreOfAll workers results = workers_of results ≡ numbers_from 0 workers

-- what lies on the workers' deques at the start is these pieces
abbrev pub StartWith : (ℕ → List Subproblem) → ℕ → List Subproblem → Type 0
StartWith start workers pieces = (weight : Subproblem → ℕ)
    → total (λ worker. weigh weight (start worker)) (numbers_from 0 workers) ≡ weigh weight pieces

-- the first seat of the beacon told `size`, and `others` other seats are out
pub record IsFirstSeat (named : TableId) (size others : ℕ) (seat : Seated) : Type 0 where
  pub of_it : seat.beacon ≡ named
  pub first : seat.knows.first ≡ true
  pub told : seat.knows.told ≡ Some size
  pub out : seat.knows.out ≡ others

-- where the root lay on a deque at the start, the works and what was left are joined results, whose floors reach this
-- size or that of a smaller cover
abbrev pub JoinUp : Instance → (ℕ → List Subproblem) → ℕ → ℕ → List Worked → List Subproblem → Type 0
JoinUp region start workers goal works left =
    StartWith start workers (root_of region ∷ []) → AreJoined region goal works left
