use Rattle.cave_base.specs.Box as grid
use Rattle.scan_core.proofs.FillLemmas.{placed_below, more_filled}
use Rattle.scan_core.proofs.ScanLemmas.{entry_clean}
use Rattle.scan_core.proofs.block.fill.Goals as goal

pub bounds-cells-placed : goal.bounds-cells-placed
bounds-cells-placed c =
    placed_below (grid.point c.args.size) c.args.states c.loop-index.cells c.in-Some.ensures.0
    c.in-Some.placed.cell c.in-Some.placed.state c.loop-index.invariant.whole c.in-Some.ensures.2

pub loop-index-preserved-in-Some : goal.loop-index-preserved-in-Some
loop-index-preserved-in-Some c =
    let placed = c.in-Some.ensures.2 in
    more_filled (grid.point c.args.size) c.args.states c.args.entries c.loop-index.index c.loop-index.entries
    c.loop-index.cells c.in-Some.ensures.0 c.in-Some.others c.in-Some.placed.cell
    c.in-Some.placed.state c.loop-index.invariant c.in-Some.ensures.1 placed
    (entry_clean (grid.point c.args.size) c.args.states c.loop-index.index c.in-Some.ensures.0 placed.entry
    placed.told (placed.inside, placed.known))

pub bounds-cells-cell : goal.bounds-cells-cell
bounds-cells-cell c =
    let told = c.in_ok-cell.ensures c.in-Some-next_fields.ensures.0 c.in-Some-next_fields.ensures.2 in
    placed_below (grid.point c.args.size) c.args.states c.loop-index.cells _ c.in_ok-cell.field-0.cell
    c.in_ok-cell.field-0.state c.loop-index.invariant.whole told.0

pub loop-index-preserved : goal.loop-index-preserved
loop-index-preserved c =
    let told = c.in_ok-cell.ensures c.in-Some-next_fields.ensures.0 c.in-Some-next_fields.ensures.2 in
    more_filled (grid.point c.args.size) c.args.states c.args.entries c.loop-index.index c.loop-index.entries
    c.loop-index.cells c.in-Some-next_fields.ensures.0 c.next_fields.new.self c.in_ok-cell.field-0.cell
    c.in_ok-cell.field-0.state c.loop-index.invariant c.in-Some-next_fields.ensures.1 told.0 told.1
