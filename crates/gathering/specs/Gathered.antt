-- What gathering the results of workers answers. This is this project's own.
use Rattle.std.specs.Prelude.{◌≡◌, ◌≤◌, ℕ, ◌+◌, true, List, [], ◌∷◌, length, Option, Some, None}
use Rattle.set_cover.specs.Instance.{Instance}
use Rattle.instance_regions.specs.Cover.{Covering}
use Rattle.proof_rules.specs.Tree.{Tree}
use Rattle.proof_tree.specs.Piece.{Fathomed}
use Rattle.search_traits.specs.Planned.{IsStopped}
use Rattle.search_traits.specs.Turns.{AreSpent, IsWithin}
use Rattle.event_core.specs.State.{State, Begins, IsDone}
use Rattle.event_core.specs.Plays.{Steps, Plays}
use Rattle.event_core.specs.Assembled.{IsAssembled}
use Rattle.event_core.specs.declared.event.Event.TheVariants.{Look, Offer, Take, Close}
use Rattle.schedule_law.specs.Worked.{Worked}
use Rattle.gathering.specs.Playing.{tries_before_closes, TriesAllCloses}
use Rattle.search_traits.specs.declared.region_fault.RegionFault.{RegionFault}
use Rattle.search_traits.specs.declared.region_fault.RegionFault.TheVariants.{Stopped, NoThread, OutOfMemory}

-- the caller's thread takes the waiting piece of this name, offers the best cover that it knows, looks, and closes it
pub record GleansOne (old : State) (caller : ℕ) (name : List ℕ) (new : State) : Type 0 where
  pub cover : Covering
  pub closed : Fathomed
  pub named : closed.piece.name ≡ name
  pub taken : State
  pub takes : Steps old (Take caller name) true taken
  pub offered : State
  pub offers : Steps taken (Offer caller cover) true offered
  pub seen : State
  pub looks : Steps offered (Look caller) true seen
  pub closes : Steps seen (Close caller closed) true new

-- it closes the waiting pieces of these names in turn
abbrev pub Gleans : State → ℕ → List (List ℕ) → State → Type 0
Gleans old caller [] new = new ≡ old
Gleans old caller (name ∷ names) new = (next : State) × GleansOne old caller name next × Gleans next caller names new

-- a cover, a tree, how many pieces of each worker's closing were taken over, and which the caller's thread closed
pub record Gathering : Type 0 where
  pub cover : Covering
  pub tree : Tree
  -- for each worker, how many of its closed pieces were taken over
  pub closed_by : List ℕ
  -- those that the caller's thread closed
  pub gleaned : List (List ℕ)

-- the works were played on a core with this aim, and with one worker more than there are works, the last being the
-- caller's thread; for each work, how many of its closed pieces were taken over
pub record ArePlayed (region : Instance) (first : List ℕ) (aim : ℕ) (works : List Worked) (counts : List ℕ)
    (closed : State) : Type 0 where
  pub start : State
  pub begins : Begins region first aim (length works + 1) start
  pub opened : State
  pub opens : Plays start (tries_before_closes works) opened
  pub closes : TriesAllCloses opened 0 works counts closed

-- the assembly of that core, after the caller's thread closed what was left
pub record IsGathered (region : Instance) (first : List ℕ) (aim : ℕ) (works : List Worked) (gathered : Gathering)
    : Type 0 where
  pub start : State
  pub begins : Begins region first aim (length works + 1) start
  pub opened : State
  pub opens : Plays start (tries_before_closes works) opened
  pub closed : State
  pub closes : TriesAllCloses opened 0 works gathered.closed_by closed
  pub final : State
  pub gleans : Gleans closed (length works) gathered.gleaned final
  pub done : IsDone final
  pub best : gathered.cover ≡ record { region = region; places = final.best }
  pub assembled : IsAssembled final [] gathered.tree

-- where turns are limited, at least as many were granted in between as pieces were closed
abbrev pub EachTook : Option ℕ → ℕ → ℕ → ℕ → Type 0
EachTook None pieces old new = old ≤ new
EachTook (Some limit) pieces old new = old + pieces ≤ new

-- no more turns than the limit were granted, and where there is one, at least one for each piece that was closed
pub record AreTurnsFor (limit : Option ℕ) (pieces granted : ℕ) : Type 0 where
  pub within : IsWithin limit granted
  pub each : EachTook limit pieces 0 granted

-- all turns that were given were granted; and a thread is never asked for
abbrev pub StopsGathering : Instance → Option ℕ → RegionFault → Type 0
StopsGathering region turns (Stopped found) =
    IsStopped region turns found.cover found.floor × AreSpent turns found.granted
StopsGathering region turns NoThread = ⊥
StopsGathering region turns OutOfMemory = Unit {0}
