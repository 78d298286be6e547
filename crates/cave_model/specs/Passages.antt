-- Where light can go. Levels go up to 15, so of light that enters a cell which costs 15 or more nothing is left.
-- The list is this project's own.
use Rattle.std.specs.Prelude.{◌≡◌, ◌↔◌, ◌<◌, ℕ, List, [], length, slice_index_or, Contains}
use Rattle.cave_base.specs.Box.{cell_count}
use Rattle.cave_model.specs.Cells.{AreNeighbours}
use Rattle.cave_model.specs.Cave.{Cave}
use Rattle.cave_model.specs.Light.{entering_cost}

-- the second cell is a neighbour of the first that light can enter
pub record LeadsTo (cave : Cave) (cell to : ℕ) : Type 0 where
  pub shared : AreNeighbours cave.size cell to
  pub passes : entering_cost cave to < 15

-- what stands in the row of the cell; nothing past the last row
abbrev pub passages_from : List (List ℕ) → ℕ → List ℕ
passages_from rows cell = slice_index_or rows cell []

-- a row for each cell of the box, with the neighbours that light can enter from there
pub record ArePassages (cave : Cave) (rows : List (List ℕ)) : Type 0 where
  pub whole : length rows ≡ cell_count cave.size
  pub exact : (cell to : ℕ) → Contains (passages_from rows cell) to ↔ LeadsTo cave cell to
