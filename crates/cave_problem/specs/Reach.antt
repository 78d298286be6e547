-- The cells that light from a block's cells can come to, step by step, with their numbers in the order in which they
-- were found. This is this project's own.
use Rattle.std.specs.Prelude.{◌≡◌, ◌⊎◌, ◌<◌, ◌≤◌, ◌^◌, ◌-◌, ℕ, ◌+◌, ◌*◌, List, length, slice_index, slice_index_or}
use Rattle.std.specs.Prelude.{All, Option, Some, None}
use Rattle.cave_base.specs.Box.{cell_count, most_cells}
use Rattle.cave_model.specs.Cells.{neighbours_of}
use Rattle.cave_model.specs.Cave.{Cave}
use Rattle.cave_model.specs.Light.{entering_cost}

-- what lies beyond a face, where light can enter it and the cell, or else the cell itself
pub record IsSide (cave : Cave) (cell : ℕ) (beyond : Option ℕ) (to : ℕ) : Type 0 where
  pub leads : (to ≡ cell) ⊎ (beyond ≡ Some to)
  pub opens : (other : ℕ) → beyond ≡ Some other → entering_cost cave cell < 15 → entering_cost cave other < 15
      → to ≡ other

-- six sides for each cell, of which those of the first `count` are known
pub record AreSides (cave : Cave) (count : ℕ) (sides : List ℕ) : Type 0 where
  pub whole : length sides ≡ 6 * cell_count cave.size
  pub each : (cell face : ℕ) → cell < count → face < 6
      → IsSide cave cell (slice_index_or (neighbours_of cave.size cell) face None) (slice_index sides (6 * cell + face))

-- the six sides of one cell, and the others as they were
pub record AreSidesOf (cave : Cave) (cell count : ℕ) (old new : List ℕ) : Type 0 where
  pub whole : length new ≡ length old
  pub here : (face : ℕ) → face < count
      → IsSide cave cell (slice_index_or (neighbours_of cave.size cell) face None) (slice_index new (6 * cell + face))
  pub rest : (k : ℕ) → k < 6 * cell → slice_index new k ≡ slice_index old k

-- the number of a cell that isn't there
abbrev pub no_number : ℕ
no_number = 2 ^ 32 - 1

-- the cell with the number
pub record IsNumberOf (reach : List ℕ) (cell number : ℕ) : Type 0 where
  pub inside : number < length reach
  pub there : slice_index reach number ≡ cell

-- cells of the box, each once, with their numbers
pub record IsReach (local reach : List ℕ) : Type 0 where
  pub inside : All (λ cell. cell < length local) reach
  pub numbered : (number : ℕ) → number < length reach → slice_index local (slice_index reach number) ≡ number
  pub others : (cell : ℕ) → cell < length local
      → (slice_index local cell ≡ no_number) ⊎ IsNumberOf reach cell (slice_index local cell)

-- no cell stands there twice
abbrev pub AreOnce : List ℕ → Type 0
AreOnce cells = (i j : ℕ) → i < length cells → j < length cells → slice_index cells i ≡ slice_index cells j → i ≡ j

-- up to 64 cells below this number, each once
pub record AreSources (count : ℕ) (cells : List ℕ) : Type 0 where
  pub few : length cells ≤ 64
  pub inside : All (λ cell. cell < count) cells
  pub once : AreOnce cells

-- the list begins with the old one
pub record BeginsWith (old new : List ℕ) : Type 0 where
  pub longer : length old ≤ length new
  pub same : (k : ℕ) → k < length old → slice_index new k ≡ slice_index old k

-- a reach that begins with the old one
pub record IsLongerReach (old local reach : List ℕ) : Type 0 where
  pub found : IsReach local reach
  pub kept : BeginsWith old reach

-- the numbers of the sides of the first `count` cells
pub record AreLinked (sides reach near : List ℕ) (count : ℕ) : Type 0 where
  pub each : (number face : ℕ) → number < count → face < 6
      → IsNumberOf reach (slice_index sides (6 * slice_index reach number + face))
      (slice_index near (6 * number + face))

-- six sides for each of `count` cells, all of them below `count`
pub record AreInside (count : ℕ) (sides : List ℕ) : Type 0 where
  pub whole : length sides ≡ 6 * count
  pub each : (cell face : ℕ) → cell < count → face < 6 → slice_index sides (6 * cell + face) < count

-- the sides of a box's cells, which are few enough, and room to link each of them
pub record HaveRoom (sides local near : List ℕ) : Type 0 where
  pub few : length local ≤ most_cells
  pub inside : AreInside (length local) sides
  pub room : length near ≡ 6 * length local

-- a reach whose first `count` cells are linked
pub record IsLinkedReach (sides local reach near : List ℕ) (count : ℕ) : Type 0 where
  pub found : IsReach local reach
  pub linked : AreLinked sides reach near count
