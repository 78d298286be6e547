use Rattle.cave_base.specs.Box as grid
use Rattle.cave_base.proofs.CellLemmas.{within_whole, coordinates_within}
use Rattle.cave_base.proofs.grid.coordinates.Goals as goal

pub returns-clause-within : goal.returns-clause-within
returns-clause-within c =
    let size = grid.point c.args.size in
    within_whole size (grid.coordinates size c.args.cell) (coordinates_within size c.args.cell c.requires)
