use Rattle.std.proofs.Common.{◌≡◌, ◌+◌, take, slice_index, [], ◌∷◌, ◌++◌}
use Rattle.std.proofs.lemmas.List.{take_more}
use Rattle.proof_check.proofs.HomeLemmas.{puts_past, puts_one}
use Rattle.proof_check.proofs.homes.put_all.Goals.{then-at-homes, else-at-homes}
use Rattle.proof_check.proofs.homes.put_all.Goals as goal

pub loop-cell-preserved : goal.loop-cell-preserved
loop-cell-preserved c =
    let cell = slice_index c.args.cells.now c.loop-cell.cell-index in
    let more : take (c.loop-cell.cell-index + 1) c.args.cells.now ≡ take c.loop-cell.cell-index c.args.cells.now ++ cell
    ∷ [] = take_more c.args.cells.now c.loop-cell.cell-index 0 c.loop-cell-test.true in
    elim c.if-at-homes.branch [
      | then-at-homes w ↦ rw (w.homes-is, more)
          (puts_one c.args.number c.args.homes.now c.loop-cell.homes (take c.loop-cell.cell-index c.args.cells.now) cell
          c.loop-cell.invariant w.both.result w.if-at-homes.true w.both.ensures)
      | else-at-homes w ↦ rw (w.homes-is, more)
          (puts_past c.args.number c.args.homes.now c.loop-cell.homes (take c.loop-cell.cell-index c.args.cells.now)
          cell c.loop-cell.invariant w.if-at-homes.false)
    ]
