-- What a worker's steps with a piece leave. This is this project's own.
use Rattle.std.specs.Prelude.{◌≡◌, ℕ, Bool, true, false, List, [], ◌∷◌, ◌++◌, length, reverse}
use Rattle.set_cover.specs.Instance.{Instance}
use Rattle.proof_tree.specs.Piece.{Subproblem, Fathomed}
use Rattle.proof_tree.specs.Opened.{Split, kids_of}
use Rattle.piece_deque.specs.Deals.{pushed_too, took_too}
use Rattle.piece_deque.specs.Rule.{WasEmpty}
use Rattle.search_traits.specs.Desks.{DeskState, IsSpent, Works}
use Rattle.worker_results.specs.Holdings.{AreClosedFrom, HeldParts}
use Rattle.worker_results.specs.Passes.{TookOne}
use Rattle.worker_results.specs.Tries.{SawEmpty}
use Rattle.worker_results.specs.declared.step.Tried.{Tried}
use Rattle.worker_results.specs.declared.step.Tried.TheVariants.{Got, Empty, Again}
use Rattle.worker_results.specs.declared.step.Tried.TheVariants as tried
use Rattle.worker_results.specs.declared.step.Step.{Step}
use Rattle.worker_results.specs.declared.step.Step.TheVariants.{Closed, Opened, NotMade, TurnsSpent, OutOfMemory}

-- floors that reach what the desk showed still do
abbrev pub KeepFloors : Instance → ℕ → List Fathomed → ℕ → List Fathomed → Type 0
KeepFloors region shown closed shown_now closed_now =
    AreClosedFrom region shown closed → AreClosedFrom region shown_now closed_now

-- the front piece of the worker's own deque is held
pub record TookFront (holdings holdings_now : HeldParts) : Type 0 where
  pub piece : Subproblem
  pub taken_off : holdings_now.own ≡ took_too holdings.own (piece ∷ [])
  pub put_on : holdings_now.held ≡ holdings.held ++ piece ∷ []
  pub same_kept : holdings_now.kept ≡ holdings.kept
  pub same_passes : holdings_now.passes ≡ holdings.passes
  pub same_closed : holdings_now.closed ≡ holdings.closed
  pub same_opened : holdings_now.opened ≡ holdings.opened

-- that piece is held, or all is as it was; nobody else takes before the owner does, and what is said to be empty was so
abbrev pub TakesOwn : HeldParts → Tried → HeldParts → Type 0
TakesOwn old Got new = TookFront old new
TakesOwn old Empty new = (new ≡ old) × WasEmpty old.own
TakesOwn old Again new = ⊥
TakesOwn old tried.OutOfMemory new = new ≡ old

-- a piece that one of the worker's other passes took is held
pub record Stole (holdings holdings_now : HeldParts) : Type 0 where
  pub piece : Subproblem
  pub taken_off : TookOne holdings.passes piece holdings_now.passes
  pub put_on : holdings_now.held ≡ holdings.held ++ piece ∷ []
  pub same_kept : holdings_now.kept ≡ holdings.kept
  pub same_own : holdings_now.own ≡ holdings.own
  pub same_closed : holdings_now.closed ≡ holdings.closed
  pub same_opened : holdings_now.opened ≡ holdings.opened

-- that piece is held, or all is as it was; the deque of this number was empty at one moment where it is said to be so
abbrev pub StealsFrom : ℕ → HeldParts → Tried → HeldParts → Type 0
StealsFrom deque old Got new = Stole old new
StealsFrom deque old Empty new = (new ≡ old) × SawEmpty old.passes deque
StealsFrom deque old Again new = new ≡ old
StealsFrom deque old tried.OutOfMemory new = new ≡ old

-- the piece that was held last is closed
pub record ClosedLast (holdings holdings_now : HeldParts) : Type 0 where
  pub fathomed : Fathomed
  pub taken_off : holdings.held ≡ holdings_now.held ++ fathomed.piece ∷ []
  pub put_on : holdings_now.closed ≡ holdings.closed ++ fathomed ∷ []
  pub same_opened : holdings_now.opened ≡ holdings.opened
  pub same_kept : holdings_now.kept ≡ holdings.kept
  pub same_own : holdings_now.own ≡ holdings.own
  pub same_passes : holdings_now.passes ≡ holdings.passes

-- the piece that was held last is opened, and its kids are kept, the first one last
pub record OpenedLast (holdings : HeldParts) (kids : ℕ) (holdings_now : HeldParts) : Type 0 where
  pub split : Split
  pub taken_off : holdings.held ≡ holdings_now.held ++ split.piece ∷ []
  pub put_on : holdings_now.opened ≡ holdings.opened ++ split ∷ []
  pub keeps : holdings_now.kept ≡ holdings.kept ++ reverse (kids_of split)
  pub counted : kids ≡ length (kids_of split)
  pub same_closed : holdings_now.closed ≡ holdings.closed
  pub same_own : holdings_now.own ≡ holdings.own
  pub same_passes : holdings_now.passes ≡ holdings.passes

-- what work on the piece that was held last leaves; where it wasn't made all is as it was
abbrev pub Leaves : {M : Type 0} → HeldParts → Step M → HeldParts → Type 0
Leaves old Closed new = ClosedLast old new
Leaves old (Opened kids memory) new = OpenedLast old kids new
Leaves old NotMade new = new ≡ old
Leaves old TurnsSpent new = new ≡ old
Leaves old OutOfMemory new = new ≡ old

-- a step that is made takes a turn where these are limited; turns were spent only where the desk granted all of them
abbrev pub UsesTurns : {M : Type 0} → DeskState → Step M → DeskState → Type 0
UsesTurns old Closed new = Works old new
UsesTurns old (Opened kids memory) new = Works old new
UsesTurns old NotMade new = Unit {0}
UsesTurns old TurnsSpent new = IsSpent new
UsesTurns old OutOfMemory new = Unit {0}

-- the newest kid that was kept is held
pub record TookNewest (holdings holdings_now : HeldParts) : Type 0 where
  pub piece : Subproblem
  pub taken_off : holdings.kept ≡ holdings_now.kept ++ piece ∷ []
  pub put_on : holdings_now.held ≡ holdings.held ++ piece ∷ []
  pub same_own : holdings_now.own ≡ holdings.own
  pub same_passes : holdings_now.passes ≡ holdings.passes
  pub same_closed : holdings_now.closed ≡ holdings.closed
  pub same_opened : holdings_now.opened ≡ holdings.opened

-- that kid is held, or all is as it was
abbrev pub TookKept : HeldParts → Bool → HeldParts → Type 0
TookKept old true new = TookNewest old new
TookKept old false new = new ≡ old

-- the oldest kid that was kept lies at the back of the worker's own deque
pub record ShowedOldest (holdings holdings_now : HeldParts) : Type 0 where
  pub piece : Subproblem
  pub taken_off : holdings.kept ≡ piece ∷ holdings_now.kept
  pub put_on : holdings_now.own ≡ pushed_too holdings.own (piece ∷ [])
  pub same_held : holdings_now.held ≡ holdings.held
  pub same_passes : holdings_now.passes ≡ holdings.passes
  pub same_closed : holdings_now.closed ≡ holdings.closed
  pub same_opened : holdings_now.opened ≡ holdings.opened

-- that kid lies there, or all is as it was
abbrev pub Shows : HeldParts → Bool → HeldParts → Type 0
Shows old true new = ShowedOldest old new
Shows old false new = new ≡ old
