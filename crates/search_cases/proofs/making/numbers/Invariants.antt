use Rattle.search_cases.specs.Made.{CountsUp}
use Rattle.search_cases.proofs.making.numbers.Given as goal

abbrev pub invariant-loop-number : goal.invariant-loop-number
invariant-loop-number l = CountsUp l.number l.numbers.items
