-- What is printed of the dark cells: how many there are, and each on a line of its own, as `x y z`.
-- The text is this project's own.
use Rattle.std.specs.Prelude.{◌≡◌, ℕ, List, [], ◌∷◌, ◌++◌, length, codes}
use Rattle.std.specs.Fmt.{decimal}
use Rattle.std.specs.List.{flat_map}
use Rattle.cave_base.specs.Box.{Point, coordinates}
use Rattle.cave_model.specs.Cave.{Cave}
use Rattle.cave_model.specs.Spawn.{AreDarkCells}

-- the line feed that ends a line
abbrev pub new_line : List ℕ
new_line = 10 ∷ []

-- the coordinates on a line of their own, parted by one space
abbrev pub point_line : Point → List ℕ
point_line at = decimal at.x ++ (codes " " ++ (decimal at.y ++ (codes " " ++ (decimal at.z ++ new_line))))

-- a cell on a line of its own
abbrev pub cell_line : Point → ℕ → List ℕ
cell_line size cell = point_line (coordinates size cell)

-- how many cells there are, and each of them on a line of its own, by its coordinates in a box of this size
abbrev pub dark_text : Point → List ℕ → List ℕ
dark_text size cells = codes "dark " ++ decimal (length cells) ++ new_line ++ flat_map (cell_line size) cells

-- the text of the dark cells of a cave, in the order of their numbers
abbrev pub IsDarkText : Cave → List ℕ → Type 0
IsDarkText cave text = (cells : List ℕ) × AreDarkCells cave cells × (text ≡ dark_text cave.size cells)
