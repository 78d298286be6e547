-- What is known of a worker's passes at the deques. This is this project's own.
use Rattle.std.specs.Prelude.{◌≡◌, ℕ, ◌+◌, ◌-◌, true, false, List, [], ◌++◌, Vec, map, flat_map, refl}
use Rattle.std.specs.Coded.{Coded, code_by, coded×, coded_ℕ}
use Rattle.std.specs.declared.alloc.Global.{Global}
use Rattle.proof_tree.specs.Piece.{Subproblem}
use Rattle.proof_tree.specs.Weights.{weigh}
use Rattle.piece_deque.specs.declared.dealt.Dealt.{Dealt}
use Rattle.piece_deque.specs.Deals.{dealt_coded}
use Rattle.worker_results.specs.Naming.{numbers_from}

-- a pass at the deque of this number
pub record KnownPass : Type 0 where
  pub deque : ℕ
  pub knows : Dealt

-- the code by which passes are told apart by their deque and by what they have done
abbrev pub known_pass_coded : Coded KnownPass
known_pass_coded = code_by (ℕ × Dealt) (coded× coded_ℕ dealt_coded)
    (λ pass. (pass.deque, pass.knows)) (λ p. record { deque = p.0; knows = p.1 }) (λ _. refl)

-- the owner's pass at the deque of this worker
pub record Owned : Type 0 where
  pub worker : ℕ
  pub knows : Dealt

-- the code by which owners' passes are told apart by their worker and by what they have done
abbrev pub owned_coded : Coded Owned
owned_coded = code_by (ℕ × Dealt) (coded× coded_ℕ dealt_coded)
    (λ o. (o.worker, o.knows)) (λ p. record { worker = p.0; knows = p.1 }) (λ _. refl)

-- it is the owner's pass
abbrev pub IsOwners : Dealt → Type 0
IsOwners pass = (pass.first ≡ true) × (pass.spent ≡ false)

-- another's pass, which pushed nothing
abbrev pub IsOthers : Dealt → Type 0
IsOthers pass = (pass.spent ≡ false) × (pass.pushed ≡ [])

-- the numbers of the deques
abbrev pub deques : List KnownPass → List ℕ
deques passes = map (λ pass. pass.deque) passes

-- passes as they lie in memory
abbrev pub Row : Type 0
Row = Vec KnownPass Global

-- a pass at each deque, in order
abbrev pub IsRow : ℕ → Row → Type 0
IsRow workers row = deques row.items ≡ numbers_from 0 workers

-- all that the passes took
abbrev pub all_taken : List KnownPass → List Subproblem
all_taken passes = flat_map (λ pass. pass.knows.taken) passes

-- one of the passes took this piece
pub record TookOne (old : List KnownPass) (piece : Subproblem) (new : List KnownPass) : Type 0 where
  pub same : deques new ≡ deques old
  pub more : (weight : Subproblem → ℕ)
      → weigh weight (all_taken new) ≡ weigh weight (all_taken old) + weight piece

-- the owner's pass after another, which pushed nothing and took these, was taken back
abbrev pub took_back : Dealt → List Subproblem → Dealt
took_back pass pieces = record {
  first = pass.first;
  spent = pass.spent;
  out = pass.out - 1;
  pushed = pass.pushed;
  taken = pass.taken ++ pieces;
}

-- what was left was taken: each piece that was pushed was taken by a pass, or is among those that are new
abbrev pub Drained : Dealt → List Subproblem → List Subproblem → Type 0
Drained pass old new = (weight : Subproblem → ℕ)
    → weigh weight pass.pushed + weigh weight old ≡ weigh weight pass.taken + weigh weight new
