use Rattle.cave_base.specs.Box as grid
use Rattle.cave_base.proofs.CellLemmas.{within_parts, number_below}
use Rattle.cave_base.proofs.grid.number.Goals as goal

pub returns-clause-in_box : goal.returns-clause-in_box
returns-clause-in_box c =
    let size = grid.point c.args.size in
    let at = grid.point c.args.at in
    number_below size at (within_parts size at c.requires.within)
