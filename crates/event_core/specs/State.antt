-- What is known of a region while workers close its pieces, as plain data. This is this project's own.
use Rattle.std.specs.Prelude.{◌≡◌, ℕ, List, [], ◌∷◌, length, min, replicate, Option, Some, None}
use Rattle.set_cover.specs.Instance.{Instance}
use Rattle.proof_rules.specs.Tree.{Tree}
use Rattle.proof_tree.specs.Piece.{Subproblem}
use Rattle.proof_tree.specs.declared.bars.Bar.{Bar}
use Rattle.proof_tree.specs.declared.branching.Branching.{Branching}

-- how a piece is opened: below which bars, and on what
pub record Way : Type 0 where
  pub bars : List Bar
  pub on : Branching

-- what became of a piece
pub data Status : Type 0 where
  waiting : Status
  -- by this worker
  held : ℕ → Status
  -- in this way
  opened : Way → Status
  -- at this floor, by this tree
  closed : ℕ → Tree → Status

-- a piece: the places that are chosen and barred in it, and what became of it
pub record Part : Type 0 where
  pub chosen : List ℕ
  pub barred : List ℕ
  pub status : Status

-- a region, its smallest cover so far, the aim, the size that each worker saw last, and the pieces by their names
pub record State : Type 0 where
  pub region : Instance
  -- the places of the smallest cover so far
  pub best : List ℕ
  -- no piece has to be closed at a greater size than this
  pub aim : ℕ
  -- for each worker the size that it saw last
  pub seen : List ℕ
  -- the piece of each name, if there is one
  pub part_at : List ℕ → Option Part

-- the size at which pieces are to be closed: that of the best cover, or the aim where that is smaller
abbrev pub goal_of : State → ℕ
goal_of state = min state.aim (length state.best)

-- the piece of this name is so
abbrev pub HasPart : State → List ℕ → List ℕ → List ℕ → Status → Type 0
HasPart state name chosen barred status =
    state.part_at name ≡ Some (record { chosen = chosen; barred = barred; status = status })

-- the piece of this name, in which these places are chosen and barred
abbrev pub piece_of : State → List ℕ → List ℕ → List ℕ → Subproblem
piece_of state name chosen barred =
    record { region = state.region; name = name; chosen = chosen; barred = barred }

-- it is still to be closed
abbrev pub IsLeft : Status → Type 0
IsLeft waiting = Unit {0}
IsLeft (held worker) = Unit {0}
IsLeft (opened way) = ⊥
IsLeft (closed floor tree) = ⊥

-- at first the root waits alone, and each worker has seen the size at which pieces are to be closed
pub record Begins (region : Instance) (places : List ℕ) (aim workers : ℕ) (state : State) : Type 0 where
  pub of_it : state.region ≡ region
  pub best : state.best ≡ places
  pub aimed : state.aim ≡ aim
  pub seen : state.seen ≡ replicate workers (min aim (length places))
  pub root : HasPart state [] [] [] waiting
  pub alone : (number : ℕ) (rest : List ℕ) → state.part_at (number ∷ rest) ≡ None

-- no piece waits or is held
abbrev pub IsDone : State → Type 0
IsDone state = (name chosen barred : List ℕ) (status : Status) → HasPart state name chosen barred status
    → ¬ IsLeft status
