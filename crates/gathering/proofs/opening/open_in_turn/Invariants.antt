use Rattle.event_core.specs.Kept.{state_of}
use Rattle.event_core.specs.Plays.{Plays}
use Rattle.gathering.specs.Playing.{tries_below}
use Rattle.gathering.proofs.opening.open_in_turn.Given as goal

-- those whose names are shorter than this
abbrev pub invariant-loop-size : goal.invariant-loop-size
invariant-loop-size l = Plays (state_of l.fn.core) (tries_below l.size l.works) (state_of l.core)
