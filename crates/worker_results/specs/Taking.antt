-- Owners take back the other passes at their deques, and empty these. This is this project's own.
use Rattle.std.specs.Prelude.{◌≡◌, ℕ, ◌+◌, List, [], ◌∷◌}
use Rattle.proof_tree.specs.Piece.{Subproblem}
use Rattle.proof_tree.specs.Weights.{weigh}
use Rattle.worker_results.specs.Passes.{Owned, KnownPass, Row, all_taken, took_back}
use Rattle.worker_results.specs.Joining.{total}

-- each owner took back a pass
abbrev pub take_back_row : List Owned → List KnownPass → List Owned
take_back_row [] row = []
take_back_row (own ∷ owners) [] = own ∷ owners
take_back_row (own ∷ owners) (pass ∷ row) =
    record { worker = own.worker; knows = took_back own.knows pass.knows.taken } ∷ take_back_row owners row

-- all rows were taken back
pub record TakeRows (owners : List Owned) (rows : List Row) (new : List Owned) : Type 0 where
  pub pushed : (weight : Subproblem → ℕ)
      → total (λ own. weigh weight own.knows.pushed) new ≡ total (λ own. weigh weight own.knows.pushed) owners
  pub taken : (weight : Subproblem → ℕ) → total (λ own. weigh weight own.knows.taken) new
      ≡ total (λ own. weigh weight own.knows.taken) owners + total (λ row. weigh weight (all_taken row.items)) rows

-- each piece that was pushed was taken by a pass, or is left
abbrev pub AreDrained : List Owned → List Subproblem → Type 0
AreDrained owners left = (weight : Subproblem → ℕ) → total (λ own. weigh weight own.knows.pushed) owners
    ≡ total (λ own. weigh weight own.knows.taken) owners + weigh weight left
