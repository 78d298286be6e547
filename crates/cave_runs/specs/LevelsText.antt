-- What is printed of the levels of block light: the sides of the box, and a line for each row of cells along x, with a
-- hexadecimal digit for each cell. So the digits stand in the order of the cells' numbers. The text is this project's
-- own.
use Rattle.std.specs.Prelude.{◌≡◌, ◌+◌, ℕ, List, [], ◌∷◌, ◌++◌, codes, nat_lt, slice_index, if◌then◌else◌}
use Rattle.cave_base.specs.Box.{Point, number}
use Rattle.cave_model.specs.Cave.{Cave}
use Rattle.cave_plan.specs.PlanText.{up_to}
use Rattle.cave_runs.specs.DarkText.{point_line}
use Rattle.light_flood.specs.Levels.{AreLevelsOf}

-- a level up to 15 as a digit: 0 to 9, and then a to f
abbrev pub level_digit : ℕ → ℕ
level_digit level = if nat_lt level 10 then 48 + level else 87 + level

-- the digits of the cells of a row, and a line feed
abbrev pub levels_row : Point → List ℕ → ℕ → ℕ → List ℕ
levels_row size levels y z =
    up_to (λ x. level_digit (slice_index levels (number size (record { x = x; y = y; z = z }))) ∷ []) size.x
    ++ codes "\n"

-- the rows of a layer
abbrev pub levels_layer : Point → List ℕ → ℕ → List ℕ
levels_layer size levels y = up_to (levels_row size levels y) size.z

-- the sides of the box, and the layers from the lowest up
abbrev pub levels_text : Point → List ℕ → List ℕ
levels_text size levels = codes "levels " ++ (point_line size ++ up_to (levels_layer size levels) size.y)

-- the text of the levels of a cave
abbrev pub IsLevelsText : Cave → List ℕ → Type 0
IsLevelsText cave text = (levels : List ℕ) × AreLevelsOf cave levels × (text ≡ levels_text cave.size levels)
