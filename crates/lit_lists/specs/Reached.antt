-- Which cells light of some level reaches, and the way back from a cell to the places that light it.
-- This is this project's own.
use Rattle.std.specs.Prelude.{ℕ, ◌<◌, ◌≤◌, ◌↔◌, List, Contains}
use Rattle.cave_base.specs.Box.{cell_count}
use Rattle.cave_model.specs.Cave.{Cave}
use Rattle.cave_model.specs.Light.{BringsFrom}
use Rattle.cave_model.specs.Plan.{AreDistinct}
use Rattle.cave_model.specs.Torches.{IsPlace, Lights}

-- a cell of the box, and an emission of at most 15
pub record IsSource (cave : Cave) (cell emission : ℕ) : Type 0 where
  pub inside : cell < cell_count cave.size
  pub most : emission ≤ 15

-- the cells to which an emission at the source brings some light, each once
pub record AreReached (cave : Cave) (source emission : ℕ) (cells : List ℕ) : Type 0 where
  pub once : AreDistinct cells
  pub exact : (cell : ℕ) → Contains cells cell ↔ BringsFrom cave source emission cell 1

-- such an emission at the cell brings some light to just those places whose torch lights the cell
pub record IsLightBack (cave : Cave) (cell emission : ℕ) : Type 0 where
  pub exact : (place : ℕ) → IsPlace cave place → Lights cave place cell ↔ BringsFrom cave cell emission place 1
