use Rattle.std.proofs.Common.{◌≡◌, ◌++◌, map, take, drop, slice_index}
use Rattle.pack_bound.proofs.numbering.put_numbers.Given as goal

abbrev pub invariant-loop-cell : goal.invariant-loop-cell
invariant-loop-cell l =
    l.indices ≡ map (λ index. slice_index l.numbers index) (take l.cell-index l.fn.indices) ++ drop
    l.cell-index l.fn.indices
