-- The results of workers, played on a core: an event that isn't enabled is passed over.
-- This is this project's own.
use Rattle.std.specs.Prelude.{◌≡◌, ℕ, zero, suc, ◌+◌, Bool, true, false, List, [], ◌∷◌, ◌++◌, length, eqb}
use Rattle.std.specs.Prelude.{if◌then◌else◌}
use Rattle.proof_tree.specs.Piece.{Fathomed}
use Rattle.proof_tree.specs.Opened.{Split}
use Rattle.event_core.specs.State.{State}
use Rattle.event_core.specs.Plays.{Steps}
use Rattle.event_core.specs.declared.event.Event.{Event}
use Rattle.event_core.specs.declared.event.Event.TheVariants.{Take, Close, Leave}
use Rattle.schedule_law.specs.Joined.{all_opened}
use Rattle.schedule_law.specs.Worked.{Worked}
use Rattle.schedule_law.specs.Listing.{longest_name, opening_of, offers, looks}

-- a worker takes a piece, opens it, and leaves it where it could not be opened
abbrev pub tries_open : ℕ → Split → List Event
tries_open worker split =
    Take worker split.piece.name ∷ opening_of split ∷ Leave worker split.piece.name ∷ []

-- it does so if the piece's name has this length
abbrev pub tries_one : ℕ → ℕ → Split → List Event
tries_one size worker split = if eqb (length split.piece.name) size then tries_open worker split else []

-- it does so for pieces in turn
abbrev pub tries_as_long : ℕ → ℕ → List Split → List Event
tries_as_long size worker [] = []
tries_as_long size worker (split ∷ splits) = tries_one size worker split ++ tries_as_long size worker splits

-- all workers from this number on open their pieces
abbrev pub tries : ℕ → ℕ → List Worked → List Event
tries size worker [] = []
tries size worker (work ∷ works) = tries_as_long size worker work.opened ++ tries size (worker + 1) works

-- all workers open their pieces whose names are shorter than this, shorter names first
abbrev pub tries_below : ℕ → List Worked → List Event
tries_below zero works = []
tries_below (suc size) works = tries_below size works ++ tries size 0 works

-- what comes before all closing: workers open pieces, shorter names first, offer and look
abbrev pub tries_before_closes : List Worked → List Event
tries_before_closes works =
    tries_below (longest_name (all_opened works) + 1) works ++ offers 0 works ++ looks 0 works

-- a worker takes a piece and closes it, and leaves it where it could not be closed
pub record TriesClose (old : State) (worker : ℕ) (closed : Fathomed) (done : Bool) (new : State) : Type 0 where
  pub took : Bool
  pub taken : State
  pub takes : Steps old (Take worker closed.piece.name) took taken
  pub tried : State
  pub closes : Steps taken (Close worker closed) done tried
  pub left : Bool
  pub leaves : Steps tried (Leave worker closed.piece.name) left new

-- 1 where it holds, and else 0
abbrev pub one_if : Bool → ℕ
one_if true = 1
one_if false = 0

-- a worker tries to close pieces in turn, of which this count were closed
abbrev pub TriesCloses : State → ℕ → List Fathomed → ℕ → State → Type 0
TriesCloses old worker [] count new = (count ≡ 0) × (new ≡ old)
TriesCloses old worker (closed ∷ rest) count new =
    (done : Bool) × (next : State) × TriesClose old worker closed done next
    × (others : ℕ) × (count ≡ one_if done + others) × TriesCloses next worker rest others new

-- all workers from this number on try to close theirs, with how many of each were closed
abbrev pub TriesAllCloses : State → ℕ → List Worked → List ℕ → State → Type 0
TriesAllCloses old worker [] counts new = (counts ≡ []) × (new ≡ old)
TriesAllCloses old worker (work ∷ works) counts new =
    (count : ℕ) × (others : List ℕ) × (counts ≡ count ∷ others)
    × (next : State) × TriesCloses old worker work.closed count next
    × TriesAllCloses next (worker + 1) works others new
