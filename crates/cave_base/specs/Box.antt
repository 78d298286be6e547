-- A box, the numbers of its cells, and the limits of a box. They are this project's own.
use Rattle.std.specs.Prelude.{ℕ, ◌+◌, ◌*◌, ◌/◌, ◌%◌, Bool, ◌&&◌, nat_lt, nat_le, List, slice_index}

-- the sides of a box, or the coordinates of a cell
pub record Point : Type 0 where
  pub x : ℕ
  pub y : ℕ
  pub z : ℕ

-- three numbers, along x, y and z, as the code has them
abbrev pub point : List ℕ → Point
point numbers = record { x = slice_index numbers 0; y = slice_index numbers 1; z = slice_index numbers 2 }

-- how many cells a box with these sides has
abbrev pub cell_count : Point → ℕ
cell_count size = size.x * size.y * size.z

-- the number of the cell at these coordinates: x runs fastest, then z, then y
abbrev pub number : Point → Point → ℕ
number size at = (at.y * size.z + at.z) * size.x + at.x

-- the coordinates of the cell with this number
abbrev pub coordinates : Point → ℕ → Point
coordinates size cell = record { x = cell % size.x; y = cell / size.x / size.z; z = cell / size.x % size.z }

-- the coordinates lie in the box
abbrev pub is_within : Point → Point → Bool
is_within size at = nat_lt at.x size.x && nat_lt at.y size.y && nat_lt at.z size.z

-- how long a side of a box may be
abbrev pub longest_side : ℕ
longest_side = 128

-- how many cells a box may have
abbrev pub most_cells : ℕ
most_cells = 262144

-- no side is longer than one may be, and there are no more cells
abbrev pub is_small : Point → Bool
is_small size = nat_le size.x longest_side && nat_le size.y longest_side && nat_le size.z longest_side
    && nat_le (cell_count size) most_cells
