-- What follows from a desk's calls, one after another: rules that close goals without an answer.
use Rattle.search_traits.proofs.DeskLemmas.{continues_enter, continues_look, continues_same, continues_take}
use Rattle.search_traits.proofs.DeskLemmas.{continues_then, works_enter, works_then}

pub ruleset desk_steps = (
  continues_same,
  continues_then,
  continues_look,
  continues_take,
  continues_enter,
  works_enter,
  works_then,
)
