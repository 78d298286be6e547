-- Results taken apart into owners' passes, rows of other passes, and works. This is this project's own.
use Rattle.std.specs.Prelude.{◌≡◌, ℕ, ◌+◌, ◌-◌, true, List, [], ◌∷◌, ◌++◌, length, All, Option, Some, None}
use Rattle.beacon.specs.declared.known.Known.{Known}
use Rattle.beacon.specs.Marks.{AtLeast}
use Rattle.set_cover.specs.Instance.{Instance}
use Rattle.proof_tree.specs.Piece.{Subproblem}
use Rattle.proof_tree.specs.Weights.{weigh}
use Rattle.schedule_law.specs.Joined.{all_kids, least_size, pieces_closed, pieces_opened}
use Rattle.schedule_law.specs.Worked.{IsWork, Worked}
use Rattle.worker_results.specs.Passes.{IsRow, Owned, Row, all_taken}
use Rattle.worker_results.specs.Results.{Handed, IsHandedIn}
use Rattle.worker_results.specs.Holdings.{work_of}
use Rattle.worker_results.specs.Joining.{numbers_of, total, workers_of, works_of}

-- `passes` passes at each deque are still out
abbrev pub AreOut : ℕ → List Owned → Type 0
AreOut passes owners = All (λ own. own.knows.out ≡ passes) owners

-- a worker's pieces, by what became of them
abbrev pub weigh_done : (Subproblem → ℕ) → Worked → ℕ
weigh_done weight work = weigh weight (pieces_closed work.closed) + weigh weight (pieces_opened work.opened)
    + weigh weight work.held + weigh weight work.kept

-- the size that was told, if any was
abbrev pub told_size : Option ℕ → ℕ
told_size None = 0
told_size (Some size) = size

-- what is known of the parts, where the first seat was so before it took in the others, and is so now
pub record AreParted (region : Instance) (start : ℕ → List Subproblem) (workers : ℕ) (old new : Known)
    (owners : List Owned) (rows : List Row) (works : List Worked) : Type 0 where
  pub first : new.first ≡ true
  pub out : new.out ≡ old.out - length rows
  pub kept : AtLeast (least_size (told_size old.told) works) new.told
  pub fit : All (IsWork region new.seen) works
  pub passes_out : AreOut workers owners
  pub each : All (IsRow workers) rows
  pub balance : (weight : Subproblem → ℕ)
      → total (weigh_done weight) works + total (λ own. weigh weight own.knows.pushed) owners
      ≡ total (λ own. weigh weight (start own.worker)) owners
      + (total (λ own. weigh weight own.knows.taken) owners + total (λ row. weigh weight (all_taken row.items)) rows)
      + total (λ work. weigh weight (all_kids work.opened)) works

-- the owner, the row and the work of each result, in order
pub record AreOfEach (results : List Handed) (owners : List Owned) (rows : List Row) (works : List Worked)
    : Type 0 where
  pub numbers : numbers_of owners ≡ workers_of results
  pub count : length rows ≡ length results
  pub heaps : works ≡ works_of results

-- the parts of one result
pub record AreResultParts (region : Instance) (start : ℕ → List Subproblem) (workers : ℕ) (done : Handed) (own : Owned)
    (row : Row) (work : Worked) : Type 0 where
  pub owner : own ≡ record { worker = done.holdings.worker; knows = done.holdings.own }
  pub passes : row.items ≡ done.holdings.passes
  pub heaps : work ≡ work_of done.holdings done.cover
  pub out : own.knows.out ≡ workers
  pub each : IsRow workers row
  pub is_done : IsHandedIn region (start done.holdings.worker) done

-- one result was taken apart, and its parts stand at the ends
pub record IsOneMore (region : Instance) (start : ℕ → List Subproblem) (workers : ℕ) (done : Handed)
    (owners : List Owned) (rows : List Row) (works : List Worked) (more_owners : List Owned)
    (more_rows : List Row) (more_works : List Worked) : Type 0 where
  pub own : Owned
  pub row : Row
  pub work : Worked
  pub are : AreResultParts region start workers done own row work
  pub in_owners : more_owners ≡ owners ++ own ∷ []
  pub in_rows : more_rows ≡ rows ++ row ∷ []
  pub in_works : more_works ≡ works ++ work ∷ []
