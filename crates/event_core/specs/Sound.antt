-- What holds after any events.
use Rattle.std.specs.Prelude.{◌≡◌, ℕ, ◌<◌, ◌≤◌, List, [], ◌∷◌, ◌++◌, length, slice_index, Some, None}
use Rattle.cave_model.specs.Plan.{AreDistinct}
use Rattle.set_cover.specs.Instance.{of_instance}
use Rattle.proof_rules.specs.Tree.{Tree}
use Rattle.proof_rules.specs.Good.{Good, IsCoverOfPiece}
use Rattle.proof_tree.specs.Bars.{places_of}
use Rattle.proof_tree.specs.Opened.{MayBeOpened, ArePlacesOn, below_bars, step_at, steps_on}
use Rattle.event_core.specs.State.{State, Part, Status, Way, opened, closed, HasPart, IsLeft, goal_of, piece_of}

-- a cover of a piece that waits or is held has no more places than these
pub record IsLeftOver (state : State) (places : List ℕ) : Type 0 where
  pub name : List ℕ
  pub chosen : List ℕ
  pub barred : List ℕ
  pub status : Status
  pub there : HasPart state name chosen barred status
  pub left : IsLeft status
  pub cover : List ℕ
  pub no_more : length cover ≤ length places
  pub covers : IsCoverOfPiece (of_instance state.region) state.region.cells chosen barred cover

-- these places cover a piece that waits or is held
pub record IsLeftFor (state : State) (places : List ℕ) : Type 0 where
  pub name : List ℕ
  pub chosen : List ℕ
  pub barred : List ℕ
  pub status : Status
  pub there : HasPart state name chosen barred status
  pub left : IsLeft status
  pub covers : IsCoverOfPiece (of_instance state.region) state.region.cells chosen barred places

-- no piece is opened below bars
abbrev pub HasNoBars : State → Type 0
HasNoBars state =
    (name chosen barred : List ℕ) (way : Way) → HasPart state name chosen barred (opened way) → way.bars ≡ []

-- the piece may be opened so, and there is a kid for each step, and no other
pub record HasKids (state : State) (name chosen barred : List ℕ) (way : Way) : Type 0 where
  pub opens : MayBeOpened (piece_of state name chosen barred) way.bars way.on
  pub places : List ℕ
  pub all : ArePlacesOn (below_bars (piece_of state name chosen barred) way.bars) way.on places
  pub there : (number : ℕ) → number < length (steps_on way.on places) → (status : Status)
      × HasPart state (name ++ number ∷ []) (chosen ++ (step_at (steps_on way.on places) number).chosen)
      ((barred ++ places_of way.bars) ++ (step_at (steps_on way.on places) number).barred) status
  pub no_more : (number : ℕ) → length (steps_on way.on places) ≤ number
      → state.part_at (name ++ number ∷ []) ≡ None

-- what holds of each state: names lead from the root on, what is closed is proved at the goal or more, and for a
-- cover of the region that is smaller some piece that waits or is held has a cover of no more places: that very cover,
-- where there are no bars
pub record IsSoundState (state : State) : Type 0 where
  pub seen : (worker : ℕ) → worker < length state.seen → goal_of state ≤ slice_index state.seen worker
  pub rooted : (status : Status) × HasPart state [] [] [] status
  pub parents : (name : List ℕ) (number : ℕ) (part : Part) → state.part_at (name ++ number ∷ []) ≡ Some part
      → (chosen : List ℕ) × (barred : List ℕ) × (way : Way) × HasPart state name chosen barred (opened way)
  pub distinct : (name chosen barred : List ℕ) (status : Status) → HasPart state name chosen barred status
      → AreDistinct chosen
  pub covered : (places : List ℕ) → IsCoverOfPiece (of_instance state.region) state.region.cells [] [] places
      → length places < goal_of state → IsLeftOver state places
  pub exact : HasNoBars state → (places : List ℕ)
      → IsCoverOfPiece (of_instance state.region) state.region.cells [] [] places
      → length places < goal_of state → IsLeftFor state places
  pub reached : (name chosen barred : List ℕ) (floor : ℕ) (tree : Tree)
      → HasPart state name chosen barred (closed floor tree) → goal_of state ≤ floor
  pub proved : (name chosen barred : List ℕ) (floor : ℕ) (tree : Tree)
      → HasPart state name chosen barred (closed floor tree)
      → Good (of_instance state.region) state.region.cells chosen barred floor tree
  pub kids : (name chosen barred : List ℕ) (way : Way) → HasPart state name chosen barred (opened way)
      → HasKids state name chosen barred way
