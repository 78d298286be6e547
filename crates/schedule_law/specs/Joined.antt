-- What is known of the results of all workers once they are joined. This is this project's own.
use Rattle.std.specs.Prelude.{◌≡◌, ℕ, ◌+◌, List, [], ◌∷◌, ◌++◌, length, All, Option, Some, None, min, map, flat_map}
use Rattle.set_cover.specs.Instance.{Instance}
use Rattle.instance_regions.specs.Cover.{Covering}
use Rattle.proof_tree.specs.Piece.{Subproblem, Fathomed, root_of}
use Rattle.proof_tree.specs.Opened.{Split, kids_of}
use Rattle.proof_tree.specs.Weights.{weigh}
use Rattle.schedule_law.specs.Worked.{Worked, IsWork}

-- the kids of what was opened, piece after piece
abbrev pub all_kids : List Split → List Subproblem
all_kids splits = flat_map kids_of splits

-- the pieces without their floors and trees
abbrev pub pieces_closed : List Fathomed → List Subproblem
pieces_closed closed = map (λ fathomed. fathomed.piece) closed

-- the pieces without how they are opened
abbrev pub pieces_opened : List Split → List Subproblem
pieces_opened opened = map (λ split. split.piece) opened

-- all that workers opened
abbrev pub all_opened : List Worked → List Split
all_opened works = flat_map (λ work. work.opened) works

-- all that workers closed
abbrev pub all_closed : List Worked → List Fathomed
all_closed works = flat_map (λ work. work.closed) works

-- the root of the region, and the kids of all that workers opened
abbrev pub all_pieces : Instance → List Worked → List Subproblem
all_pieces region works = root_of region ∷ all_kids (all_opened works)

-- those that workers still held, and kids that they kept to themselves
abbrev pub all_back : List Worked → List Subproblem
all_back works = flat_map (λ work. work.held ++ work.kept) works

-- this size, or the cover's where that is smaller
abbrev pub less_by : ℕ → Option Covering → ℕ
less_by size None = size
less_by size (Some cover) = min size (length cover.places)

-- the least of this size and those of the workers' covers
abbrev pub least_size : ℕ → List Worked → ℕ
least_size size [] = size
least_size size (work ∷ works) = less_by (least_size size works) work.cover

-- each piece that came to be, the root too, was opened, closed, handed back or left in a deque, and just once; each
-- floor reaches the goal of the round, or the least size of a worker's cover where that is smaller
pub record AreJoined (region : Instance) (goal : ℕ) (works : List Worked) (left : List Subproblem) : Type 0 where
  pub fit : All (IsWork region (least_size goal works)) works
  pub balance : (weight : Subproblem → ℕ)
      → weigh weight (all_pieces region works)
      ≡ weigh weight (pieces_opened (all_opened works)) + weigh weight (pieces_closed (all_closed works))
      + weigh weight (all_back works) + weigh weight left
