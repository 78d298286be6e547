use Rattle.cave_base.proofs.CellLemmas.{within_whole, coordinates_within, number-coordinates}
use Rattle.cave_base.specs.Box.{coordinates}
use Rattle.cave_base.proofs.laws.coordinates_then_number.Goals as goal

pub returns : goal.returns
returns c = λ size cell h.
    (within_whole size (coordinates size cell) (coordinates_within size cell h), number-coordinates size cell)
