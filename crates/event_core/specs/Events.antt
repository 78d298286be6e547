-- Events: when each is enabled, and what it does. This is this project's own.
use Rattle.std.specs.Prelude.{◌≡◌, ◌≢◌, ℕ, ◌<◌, ◌≤◌, List, [], ◌∷◌, ◌++◌, length, slice_index, set, nat_lt}
use Rattle.std.specs.Prelude.{if◌then◌else◌}
use Rattle.instance_regions.specs.Cover.{Covering, IsCover}
use Rattle.proof_tree.specs.Bars.{places_of}
use Rattle.proof_tree.specs.Opened.{MayBeOpened, ArePlacesOn, below_bars, step_at, steps_on}
use Rattle.proof_tree.specs.Piece.{Fathomed, IsClosed}
use Rattle.proof_tree.specs.declared.bars.Bar.{Bar}
use Rattle.proof_tree.specs.declared.branching.Branching.{Branching}
use Rattle.proof_tree.specs.declared.branching.Branching.TheVariants.{Cell, Place}
use Rattle.event_core.specs.State.{State, Status, Way, waiting, held, opened, closed, HasPart, IsLeft, goal_of}
use Rattle.event_core.specs.State.{piece_of}
use Rattle.event_core.specs.declared.event.Event.{Event}
use Rattle.event_core.specs.declared.event.Event.TheVariants.{Look, Offer, Take, Open, Pick, Close, Leave}

-- ---- when an event is enabled

-- there is a worker with this number
abbrev pub IsWorker : State → ℕ → Type 0
IsWorker state worker = worker < length state.seen

-- a cover of this region is offered
pub record MayOffer (state : State) (worker : ℕ) (cover : Covering) : Type 0 where
  pub known : IsWorker state worker
  pub of_it : cover.region ≡ state.region
  pub covers : IsCover cover

-- the piece waits
pub record MayTake (state : State) (worker : ℕ) (name : List ℕ) : Type 0 where
  pub known : IsWorker state worker
  pub chosen : List ℕ
  pub barred : List ℕ
  pub waits : HasPart state name chosen barred waiting

-- the piece waits or is held, and may be opened in this way
pub record MayOpen (state : State) (name : List ℕ) (way : Way) : Type 0 where
  pub chosen : List ℕ
  pub barred : List ℕ
  pub status : Status
  pub there : HasPart state name chosen barred status
  pub left : IsLeft status
  pub opens : MayBeOpened (piece_of state name chosen barred) way.bars way.on

-- the worker holds the piece, which is this one, and its floor is at least what the worker has seen
pub record MayClose (state : State) (worker : ℕ) (fathomed : Fathomed) : Type 0 where
  pub known : IsWorker state worker
  pub of_it : fathomed.piece.region ≡ state.region
  pub holds : HasPart state fathomed.piece.name fathomed.piece.chosen fathomed.piece.barred (held worker)
  pub reaches : slice_index state.seen worker ≤ fathomed.floor
  pub proved : IsClosed fathomed

-- the worker holds the piece
pub record MayLeave (state : State) (worker : ℕ) (name : List ℕ) : Type 0 where
  pub known : IsWorker state worker
  pub chosen : List ℕ
  pub barred : List ℕ
  pub holds : HasPart state name chosen barred (held worker)

-- the event may happen in this state, by what its kind asks
abbrev pub IsEnabled : State → Event → Type 0
IsEnabled state (Look worker) = IsWorker state worker
IsEnabled state (Offer worker cover) = MayOffer state worker cover
IsEnabled state (Take worker name) = MayTake state worker name
IsEnabled state (Open name bars cell) = MayOpen state name (record { bars = bars; on = Cell cell })
IsEnabled state (Pick name bars place) = MayOpen state name (record { bars = bars; on = Place place })
IsEnabled state (Close worker fathomed) = MayClose state worker fathomed
IsEnabled state (Leave worker name) = MayLeave state worker name

-- the event that opens the piece of this name below these bars, and on this
abbrev pub opening_on : List ℕ → List Bar → Branching → Event
opening_on name bars (Cell cell) = Open name bars cell
opening_on name bars (Place place) = Pick name bars place

-- ---- what it does

-- the smaller of two covers, the second where they are as large
abbrev pub smaller : List ℕ → List ℕ → List ℕ
smaller new old = if nat_lt (length new) (length old) then new else old

-- the piece of this name gets this status, and all else stays
pub record Turns (old : State) (name : List ℕ) (status : Status) (new : State) : Type 0 where
  pub kept : new ≡ record old { part_at = new.part_at }
  pub here : (chosen barred : List ℕ) (was : Status) → HasPart old name chosen barred was
      → HasPart new name chosen barred status
  pub others : (other : List ℕ) → other ≢ name → new.part_at other ≡ old.part_at other

-- the piece is opened: a kid waits for each step, whose places are chosen and barred in it too, below those that are
-- left out
pub record IsParted (old : State) (name chosen barred : List ℕ) (way : Way) (places : List ℕ) (new : State)
    : Type 0 where
  pub here : HasPart new name chosen barred (opened way)
  pub kids : (number : ℕ) → number < length (steps_on way.on places)
      → HasPart new (name ++ number ∷ []) (chosen ++ (step_at (steps_on way.on places) number).chosen)
      ((barred ++ places_of way.bars) ++ (step_at (steps_on way.on places) number).barred) waiting
  pub others : (other : List ℕ) → other ≢ name
      → ((number : ℕ) → number < length (steps_on way.on places) → other ≢ name ++ number ∷ [])
      → new.part_at other ≡ old.part_at other

-- the piece is opened in this way: on a cell with a kid for each place that lights it and is open below the bars,
-- ascending; at a place with one in which it is chosen, and one in which it is barred. All else stays
pub record Opens (old : State) (name : List ℕ) (way : Way) (new : State) : Type 0 where
  pub kept : new ≡ record old { part_at = new.part_at }
  pub parted : (chosen barred : List ℕ) (was : Status) → HasPart old name chosen barred was
      → (places : List ℕ) × ArePlacesOn (below_bars (piece_of old name chosen barred) way.bars) way.on places
      × IsParted old name chosen barred way places new

-- the event makes the new state of the old: it changes what a worker saw, the best cover, or what became of a piece
abbrev pub Does : State → Event → State → Type 0
Does old (Look worker) new = new ≡ record old { seen = set old.seen worker (goal_of old) }
Does old (Offer worker cover) new = new ≡ record old { best = smaller cover.places old.best }
Does old (Take worker name) new = Turns old name (held worker) new
Does old (Open name bars cell) new = Opens old name (record { bars = bars; on = Cell cell }) new
Does old (Pick name bars place) new = Opens old name (record { bars = bars; on = Place place }) new
Does old (Close worker fathomed) new = Turns old fathomed.piece.name (closed fathomed.floor fathomed.tree) new
Does old (Leave worker name) new = Turns old name waiting new
