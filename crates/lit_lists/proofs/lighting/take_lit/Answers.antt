use Rattle.std.proofs.Common.{length, take, slice_index, arith}
use Rattle.std.specs.Prelude.{◌≡◌, ◌+◌, ◌<◌, ◌++◌, [], ◌∷◌}
use Rattle.std.proofs.lemmas.List.{take_more}
use Rattle.lit_lists.proofs.TakeLemmas.{taking_none, taking_lit, taking_dim, taking_all, taken, put_out}
use Rattle.lit_lists.proofs.lighting.take_lit.Goals.{then-levels-cell-gt0+in_ok-push, else-levels-cell-gt0}
use Rattle.lit_lists.proofs.lighting.take_lit.Goals as goal

pub loop-cell-init : goal.loop-cell-init
loop-cell-init c = taking_none c.args.levels.now c.args.lit.now.items c.requires.empty

pub loop-cell-preserved : goal.loop-cell-preserved
loop-cell-preserved c =
    let cell = slice_index c.args.queue.now c.loop-cell.cell-index in
    let inside : cell < length c.args.levels.now = c.requires.inside c.loop-cell.cell-index 0 c.loop-cell-test.true in
    let more : take (c.loop-cell.cell-index + 1) c.args.queue.now ≡ take c.loop-cell.cell-index c.args.queue.now ++ cell
    ∷ [] = take_more c.args.queue.now c.loop-cell.cell-index 0 c.loop-cell-test.true in
    elim c.if-levels-cell-gt0.branch [
      | then-levels-cell-gt0+in_ok-push w ↦ rw (w.lit-is, w.in_ok-push.ensures.items, more)
          (taking_lit c.args.levels.now (take c.loop-cell.cell-index c.args.queue.now)
          c.loop-cell.levels c.loop-cell.lit.items cell c.loop-cell.invariant inside
          w.if-levels-cell-gt0.true)
      | else-levels-cell-gt0 w ↦ rw (w.lit-is, more)
          (taking_dim c.args.levels.now (take c.loop-cell.cell-index c.args.queue.now)
          c.loop-cell.levels c.loop-cell.lit.items cell c.loop-cell.invariant inside
          (omega (arith, w.if-levels-cell-gt0.false)))
    ]

pub returns-clause-taken : goal.returns-clause-taken
returns-clause-taken c = taken c.args.levels.now c.args.queue.now c.loop-cell.levels c.loop-cell.lit.items
    (taking_all c.args.levels.now c.args.queue.now c.loop-cell.levels c.loop-cell.lit.items
    c.loop-cell.cell-index c.loop-cell-test.false c.loop-cell.invariant)

pub returns-clause-out : goal.returns-clause-out
returns-clause-out c = put_out c.args.levels.now c.args.queue.now c.loop-cell.levels c.loop-cell.lit.items
    (taking_all c.args.levels.now c.args.queue.now c.loop-cell.levels c.loop-cell.lit.items
    c.loop-cell.cell-index c.loop-cell-test.false c.loop-cell.invariant)
