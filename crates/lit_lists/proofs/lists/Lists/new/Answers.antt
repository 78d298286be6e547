use Rattle.lit_lists.proofs.PairLemmas.{lists_of}
use Rattle.lit_lists.proofs.lists.Lists.new.Goals as goal

pub returns : goal.returns
returns c = lists_of c.args.world.now c.in_ok-dark.dark.items c.in_ok-places.places.items c.in_ok-pairs.pairs
    c.in_ok-dark.ensures c.in_ok-places.ensures c.in_ok-pairs.ensures
