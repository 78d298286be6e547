use Rattle.std.proofs.Common.{◌<◌, ℕ, ap, length, get_or, set, slice_index, ◌∙◌, arith}
use Rattle.std.proofs.lemmas.List.Edits.{map_over_more}
use Rattle.std.proofs.lemmas.List.{get_or_default}
use Rattle.pack_bound.proofs.numbering.put_numbers.Goals as goal

pub loop-cell-preserved : goal.loop-cell-preserved
loop-cell-preserved c =
    let f = λ (index : ℕ). slice_index c.args.numbers.now index in
    let i = c.loop-cell.cell-index in
    let inside : i < length c.loop-cell.indices = omega arith in
    ap (λ (n : ℕ). set c.loop-cell.indices i n) c.number_at.ensures
    ∙ map_over_more f c.args.indices.now c.loop-cell.indices i
    (get_or c.loop-cell.indices i 0) c.loop-cell-test.true c.loop-cell.invariant
    (get_or_default c.loop-cell.indices i 0 (get_or c.loop-cell.indices i 0) inside)
