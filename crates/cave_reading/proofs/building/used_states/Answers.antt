use Rattle.std.proofs.Common.{length}
use Rattle.cave_reading.proofs.StateLemmas.{used_more_some, used_more_none, known_at}
use Rattle.cave_reading.proofs.building.used_states.Goals.{in-Some, in_default}
use Rattle.cave_reading.proofs.building.used_states.Goals as goal

pub loop-cell-preserved : goal.loop-cell-preserved
loop-cell-preserved c =
    let cells = c.cells-cell-items.result.now in
    let states = length c.args.scan.now.palette in
    let i = c.loop-cell.cell-index in
    let known = rw (← c.cells-cell-items.ensures.cells) at c.cells-cell-items.ensures.known in
    elim c.match-cell.branch [
      | in-Some w ↦ rw w.used-is (used_more_some cells i states
          w.in-Some.index c.loop-cell.used.items c.loop-cell-test.true w.in-Some.is
          (known_at cells i w.in-Some.index states known c.loop-cell-test.true w.in-Some.is) c.loop-cell.invariant)
      | in_default w ↦ rw w.used-is (used_more_none cells i states
          c.loop-cell.used.items c.loop-cell-test.true w.in_default.not-Some c.loop-cell.invariant)
    ]
