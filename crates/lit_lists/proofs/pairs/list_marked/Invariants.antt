use Rattle.std.proofs.Common.{◌≡◌, ◌++◌, take}
use Rattle.std.specs.Prelude.{filter}
use Rattle.lit_lists.specs.Lists.{is_marked}
use Rattle.lit_lists.proofs.pairs.list_marked.Given as goal

abbrev pub invariant-loop-cell : goal.invariant-loop-cell
invariant-loop-cell l = l.numbers.items
    ≡ l.fn.numbers.items ++ filter (is_marked l.marks) (take l.cell-index l.cells)
