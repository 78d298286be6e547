-- The list of events that the results of workers stand for. This is this project's own.
-- It isn't the order in time: offers stand before all closing, which the results allow.
use Rattle.std.specs.Prelude.{ℕ, zero, suc, ◌+◌, List, [], ◌∷◌, ◌++◌, length, max, eqb, Option, Some, None}
use Rattle.std.specs.Prelude.{if◌then◌else◌}
use Rattle.instance_regions.specs.Cover.{Covering}
use Rattle.proof_tree.specs.Piece.{Fathomed}
use Rattle.proof_tree.specs.Opened.{Split}
use Rattle.event_core.specs.State.{State}
use Rattle.event_core.specs.Events.{IsEnabled, Does, opening_on}
use Rattle.event_core.specs.declared.event.Event.{Event}
use Rattle.event_core.specs.declared.event.Event.TheVariants.{Look, Offer, Take, Close}
use Rattle.schedule_law.specs.Joined.{all_opened}
use Rattle.schedule_law.specs.Worked.{Worked}

-- the event that opens the piece
abbrev pub opening_of : Split → Event
opening_of split = opening_on split.piece.name split.bars split.on

-- a worker takes pieces whose names are so long, and opens each
abbrev pub opens_as_long : ℕ → ℕ → List Split → List Event
opens_as_long size worker [] = []
opens_as_long size worker (split ∷ splits) =
    (if eqb (length split.piece.name) size
    then Take worker split.piece.name ∷ opening_of split ∷ []
    else []) ++ opens_as_long size worker splits

-- the workers from this number on take pieces whose names are so long, and open each
abbrev pub opens : ℕ → ℕ → List Worked → List Event
opens size worker [] = []
opens size worker (work ∷ works) = opens_as_long size worker work.opened ++ opens size (worker + 1) works

-- the workers take pieces whose names are shorter than this, and open each, shorter names first
abbrev pub opens_below : ℕ → List Worked → List Event
opens_below zero works = []
opens_below (suc size) works = opens_below size works ++ opens size 0 works

-- the length of the longest name of a piece that was opened
abbrev pub longest_name : List Split → ℕ
longest_name [] = 0
longest_name (split ∷ splits) = max (length split.piece.name) (longest_name splits)

-- a worker offers the cover that it found, if it found one
abbrev pub offer_of : ℕ → Option Covering → List Event
offer_of worker None = []
offer_of worker (Some cover) = Offer worker cover ∷ []

-- the workers from this number on offer their covers
abbrev pub offers : ℕ → List Worked → List Event
offers worker [] = []
offers worker (work ∷ works) = offer_of worker work.cover ++ offers (worker + 1) works

-- the workers from this number on look
abbrev pub looks : ℕ → List Worked → List Event
looks worker [] = []
looks worker (work ∷ works) = Look worker ∷ looks (worker + 1) works

-- a worker takes pieces, and closes each
abbrev pub closes_of : ℕ → List Fathomed → List Event
closes_of worker [] = []
closes_of worker (closed ∷ rest) = Take worker closed.piece.name ∷ Close worker closed ∷ closes_of worker rest

-- the workers from this number on take pieces, and close each
abbrev pub closes : ℕ → List Worked → List Event
closes worker [] = []
closes worker (work ∷ works) = closes_of worker work.closed ++ closes (worker + 1) works

-- what comes before all closing: workers open pieces, shorter names first, offer and look
abbrev pub before_closes : List Worked → List Event
before_closes works = opens_below (longest_name (all_opened works) + 1) works ++ offers 0 works ++ looks 0 works

-- the whole list
abbrev pub listing : List Worked → List Event
listing works = before_closes works ++ closes 0 works

-- each event is enabled when its turn comes, whatever state those before it left
abbrev pub AllEnabled : State → List Event → Type 0
AllEnabled state [] = Unit {0}
AllEnabled state (event ∷ events) =
    IsEnabled state event × ((next : State) → Does state event next → AllEnabled next events)
