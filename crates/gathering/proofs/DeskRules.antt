-- What follows from a desk's states, one after another: rules that close goals without an answer.
use Rattle.search_traits.proofs.DeskLemmas.{continues_same, continues_then}

pub ruleset desk_states = (continues_same, continues_then)
