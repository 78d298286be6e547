use Rattle.std.proofs.Common.{◌≡◌, ◌++◌}
use Rattle.std.specs.Prelude.{map}
use Rattle.search_pool.specs.Slots.{lent, lent_pass}
use Rattle.search_pool.proofs.slots.lend_row.Given as goal

-- what was done with the ends so far, and is to be done with the others
abbrev pub invariant-loop-own : goal.invariant-loop-own
invariant-loop-own g l = record {
  owned : l.left.items ++ map lent l.own-iterator.rest.items ≡ map lent l.initial.own-iterator.rest.items;
  passes : l.passes.items ++ map lent_pass l.own-iterator.rest.items ≡ map lent_pass l.initial.own-iterator.rest.items;
}
