use Rattle.std.proofs.Common.{◌≡◌, length}
use Rattle.event_core.specs.Kept.{state_of}
use Rattle.search_traits.specs.Desks.{Continues}
use Rattle.gathering.specs.Gathered.{EachTook}
use Rattle.gathering.proofs.GleanLemmas.{IsGleaning}
use Rattle.gathering.proofs.gleaning.glean.Given as goal

abbrev pub invariant-loop-name : goal.invariant-loop-name
invariant-loop-name g l =
    IsGleaning (state_of l.fn.core) l.caller l.gleaned.items (state_of l.core) l.name-iterator.rest.items
    × (l.desk.region ≡ l.core.region) × Continues l.fn.desk l.desk
    × EachTook l.fn.desk.limit (length l.gleaned.items) l.fn.desk.granted l.desk.granted
