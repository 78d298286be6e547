-- Which cells of a box share a face. The directions are those of the game:
-- north is towards lower z, south towards higher z, west towards lower x, east towards higher x.
use Rattle.std.specs.Prelude.{◌≡◌, ℕ, ◌+◌, ◌-◌, ◌<◌, Bool, List, [], ◌∷◌, map, Option, Some, None, option_map, nat_lt}
use Rattle.std.specs.Prelude.{if◌then◌else◌}
use Rattle.cave_base.specs.Box.{Point, cell_count, number, coordinates}

-- a face of a cell, by where it looks
pub data Face : Type 0 where
  west : Face
  east : Face
  north : Face
  south : Face
  below : Face
  above : Face

-- the coordinates, where there is such a place
abbrev pub point_if : Bool → Point → Option Point
point_if fits at = if fits then Some at else None

-- the coordinates one step on, where the box goes so far
abbrev pub step : Point → Face → Point → Option Point
step size west at = point_if (nat_lt 0 at.x) (record at { x = at.x - 1 })
step size east at = point_if (nat_lt (at.x + 1) size.x) (record at { x = at.x + 1 })
step size north at = point_if (nat_lt 0 at.z) (record at { z = at.z - 1 })
step size south at = point_if (nat_lt (at.z + 1) size.z) (record at { z = at.z + 1 })
step size below at = point_if (nat_lt 0 at.y) (record at { y = at.y - 1 })
step size above at = point_if (nat_lt (at.y + 1) size.y) (record at { y = at.y + 1 })

-- the cell beyond a face of this one
abbrev pub beyond : Point → Face → ℕ → Option ℕ
beyond size face cell = option_map (number size) (step size face (coordinates size cell))

-- two cells of the box that share a face
pub record AreNeighbours (size : Point) (first second : ℕ) : Type 0 where
  pub inside : first < cell_count size
  pub face : Face
  pub there : beyond size face first ≡ Some second

-- the cells beyond each face, in the order west, east, north, south, below, above
abbrev pub neighbours_of : Point → ℕ → List (Option ℕ)
neighbours_of size cell = map (λ face. beyond size face cell) (west ∷ east ∷ north ∷ south ∷ below ∷ above ∷ [])
