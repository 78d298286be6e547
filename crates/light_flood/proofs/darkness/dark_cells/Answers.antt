use Rattle.std.proofs.Common.{◌≡◌, ◌≤◌, sym, ◌∙◌, arith}
use Rattle.std.proofs.lemmas.Bool.{true≢false}
use Rattle.cave_base.specs.Box as grid
use Rattle.cave_model.specs.Spawn.{IsDark}
use Rattle.cave_model.proofs.ListingLemmas.{lists_none, lists_skip, lists_push, lists_all, lists_inside}
use Rattle.cave_model.proofs.TorchLemmas.{spawnable_inside}
use Rattle.light_flood.proofs.darkness.dark_cells.Goals.{then-is_dark+in_ok-push, else-is_dark}
use Rattle.light_flood.proofs.darkness.dark_cells.Goals as goal

pub loop-cell-init : goal.loop-cell-init
loop-cell-init c = lists_none (IsDark c.args.world.now) c.new-cells.result.items c.new-cells.ensures.items

pub loop-cell-preserved : goal.loop-cell-preserved
loop-cell-preserved c = elim c.if-is_dark.branch [
  | then-is_dark+in_ok-push w ↦ rw (w.cells-is, w.in_ok-push.ensures.items)
      (lists_push (IsDark c.args.world.now) c.loop-cell.cell c.loop-cell.cells.items c.loop-cell.invariant
      (c.is_dark.ensures.0 w.if-is_dark.true))
  | else-is_dark w ↦ rw w.cells-is
      (lists_skip (IsDark c.args.world.now) c.loop-cell.cell c.loop-cell.cells.items c.loop-cell.invariant
      (λ dark. true≢false (sym (c.is_dark.ensures.1 dark) ∙ w.if-is_dark.false)))
]

pub returns-clause-dark : goal.returns-clause-dark
returns-clause-dark c =
    let all : c.loop-cell.cell ≡ grid.cell_count c.args.world.now.size =
    omega (arith, c.cell_count-cell-end.ensures.count) in
    lists_all (IsDark c.args.world.now) c.loop-cell.cell c.loop-cell.cells.items
    (λ cell dark. (let b = spawnable_inside c.args.world.now cell c.cell_count-cell-end.ensures.sound dark.spawnable in
    omega (arith, all)))
    c.loop-cell.invariant

pub returns-clause-in_box : goal.returns-clause-in_box
returns-clause-in_box c =
    let within : c.loop-cell.cell ≤ grid.cell_count c.args.world.now.size =
    omega (arith, c.cell_count-cell-end.ensures.count) in
    lists_inside (IsDark c.args.world.now) c.loop-cell.cell (grid.cell_count c.args.world.now.size)
    c.loop-cell.cells.items within c.loop-cell.invariant
