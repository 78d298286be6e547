-- What follows from a desk's calls, one after another: rules that close goals without an answer.
use Rattle.search_traits.proofs.DeskLemmas.{continues_enter, continues_look, continues_then, works_after, works_enter}

pub ruleset desk_calls = (continues_look, continues_enter, continues_then, works_enter, works_after)
