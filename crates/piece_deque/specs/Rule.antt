-- What always holds of the pieces in a deque and those that passes pushed and took. This is this project's own.
-- Pieces are compared by weights: two lists that weigh the same, however pieces are weighed, hold the same pieces.
use Rattle.std.specs.Prelude.{◌≡◌, ℕ, ◌+◌, Bool, true, false, List, [], ◌∷◌, length}
use mathlib.Core.Option.{some}
use lib.ListN.{get_elem?}
use Rattle.proof_tree.specs.Piece.{Subproblem}
use Rattle.proof_tree.specs.Weights.{weigh}
use Rattle.piece_deque.specs.declared.dealt.Dealt.{Dealt}
use Rattle.piece_deque.specs.declared.answer.Take.{Take}
use Rattle.piece_deque.specs.declared.answer.Take.TheVariants.{Got, Empty, Again}
use Rattle.piece_deque.specs.Deals.{took_too}

-- a count of each pass, added up
abbrev pub passes_total : (Dealt → ℕ) → List Dealt → ℕ
passes_total count [] = 0
passes_total count (pass ∷ passes) = count pass + passes_total count passes

-- one for a pass that isn't spent
abbrev pub one_if_unspent : Bool → ℕ
one_if_unspent true = 0
one_if_unspent false = 1

-- how many passes are not spent
abbrev pub unspent : List Dealt → ℕ
unspent passes = passes_total (λ pass. one_if_unspent pass.spent) passes

-- a spent pass has done nothing; the first one counts the others, and it alone pushes
abbrev pub Fits : ℕ → ℕ → ℕ → Dealt → Type 0
Fits chief alive number pass =
    (pass.spent ≡ true → pass.taken ≡ [])
    × (pass.first ≡ false → pass.pushed ≡ [])
    × (pass.first ≡ true → (number ≡ chief) × (alive ≡ pass.out + 1))

-- each of the passes fits
abbrev pub AllFit : ℕ → ℕ → List Dealt → Type 0
AllFit chief alive passes =
    (number : ℕ) (pass : Dealt) → get_elem? passes number ≡ some pass → Fits chief alive number pass

-- the pieces pushed are those in the deque and those taken
pub record Balances (items : List Subproblem) (passes : List Dealt) : Type 0 where
  pub chief : ℕ
  pub balance : (weight : Subproblem → ℕ) → passes_total (λ pass. weigh weight pass.pushed) passes
      ≡ passes_total (λ pass. weigh weight pass.taken) passes + weigh weight items
  pub fit : AllFit chief (unspent passes) passes

-- at one moment these pieces lay in the deque, and the pass was as it is
pub record HeldPieces (pass : Dealt) (items : List Subproblem) : Type 0 where
  pub passes : List Dealt
  pub number : ℕ
  pub rule : Balances items passes
  pub there : get_elem? passes number ≡ some pass

-- at one moment the deque was empty, and the pass as it is
abbrev pub WasEmpty : Dealt → Type 0
WasEmpty pass = HeldPieces pass []

-- at one moment `count` pieces lay in the deque, and the pass was as it is
pub record HeldCount (pass : Dealt) (count : ℕ) : Type 0 where
  pub items : List Subproblem
  pub held : HeldPieces pass items
  pub counted : length items ≡ count

-- each piece that was pushed was taken by this pass or one that it took back
abbrev pub AllTaken : Dealt → Type 0
AllTaken pass = (weight : Subproblem → ℕ) → weigh weight pass.pushed ≡ weigh weight pass.taken

-- the owner's pass, when no other is out
abbrev pub IsAlone : Dealt → Type 0
IsAlone pass = (pass.first ≡ true) × (pass.spent ≡ false) × (pass.out ≡ 0)

-- what a take answers and leaves: the piece taken, or that the deque was empty, of which this is known
abbrev pub Answers : (Dealt → Type 0) → Dealt → Take → Dealt → Type 0
Answers empty before (Got piece) after = after ≡ took_too before (piece ∷ [])
Answers empty before Empty after = (after ≡ before) × empty before
Answers empty before Again after = after ≡ before
