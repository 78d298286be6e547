use Rattle.cave_base.proofs.CellLemmas.{within_parts, number_below, coordinates-number}
use Rattle.cave_base.proofs.laws.number_then_coordinates.Goals as goal

pub returns : goal.returns
returns c = λ size at h. (
  number_below size at (within_parts size at h),
  coordinates-number size at
      (within_parts size at h),
)
