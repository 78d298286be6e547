-- Levels of light by the number of the cell.
-- Source: Minecraft Wiki, "Light".
use Rattle.std.specs.Prelude.{◌≡◌, ◌<◌, ℕ, List, length, slice_index}
use Rattle.cave_base.specs.Box.{cell_count}
use Rattle.cave_model.specs.Cave.{Cave}
use Rattle.cave_model.specs.Light.{IsLevelOf, IsReachOf}

-- `count` cells, none with light
pub record HasNoLight (count : ℕ) (levels : List ℕ) : Type 0 where
  pub counted : length levels ≡ count
  pub dark : (cell : ℕ) → slice_index levels cell ≡ 0

-- the levels of the cave's cells
pub record AreLevelsOf (cave : Cave) (levels : List ℕ) : Type 0 where
  pub whole : length levels ≡ cell_count cave.size
  pub each : (cell : ℕ) → cell < cell_count cave.size → IsLevelOf cave cell (slice_index levels cell)

-- the levels that an emission at the source alone gives, 0 beyond the box
abbrev pub AreReachOf : Cave → ℕ → ℕ → (ℕ → ℕ) → Type 0
AreReachOf cave source emission levels = (cell : ℕ) → IsReachOf cave source emission cell (levels cell)
